-- The laws of the order of errors.
use Rattle.call_table.proofs.ErrorOrder.{codes_ascend, first_error, no_error}
use Rattle.call_table.proofs.laws.errors.Goals as goal

pub returns-clause-ascend : goal.returns-clause-ascend
returns-clause-ascend c = λ e d m. codes_ascend e d m

pub returns-clause-first : goal.returns-clause-first
returns-clause-first c = λ e d m code is. first_error e d m code is

pub returns-clause-none : goal.returns-clause-none
returns-clause-none c = λ e d m is. no_error e d m is
