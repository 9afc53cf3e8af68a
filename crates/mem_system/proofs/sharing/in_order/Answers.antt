-- Touches one after the other.
use Rattle.mem_system.proofs.Touches.{touched_all-append}
use Rattle.mem_system.proofs.sharing.in_order.Goals as goal

pub returns : goal.returns
returns c = record { append = touched_all-append }
