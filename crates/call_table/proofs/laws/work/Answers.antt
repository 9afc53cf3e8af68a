-- The laws of what a call tells of its work.
use Rattle.call_table.proofs.BoundedWork.{operations, calls_bounded, calls_permitted}
use Rattle.call_table.proofs.laws.work.Goals as goal

pub returns-clause-operation : goal.returns-clause-operation
returns-clause-operation c = λ e d m. operations e d m

pub returns-clause-bounded : goal.returns-clause-bounded
returns-clause-bounded c = λ e d m. calls_bounded e d m

pub returns-clause-permitted : goal.returns-clause-permitted
returns-clause-permitted c = λ e d m. calls_permitted e d m
