-- The laws of which calls empty the translation buffer, and what the others keep.
use Rattle.call_table.proofs.BoundedWork.{calls_empty}
use Rattle.call_table.proofs.WalksStay.{walks_stay}
use Rattle.call_table.proofs.laws.buffer.Goals as goal

pub returns-clause-empties : goal.returns-clause-empties
returns-clause-empties c = λ e d m. calls_empty e d m

pub returns-clause-stays : goal.returns-clause-stays
returns-clause-stays c = λ e d m h quiet. walks_stay e d m h quiet
