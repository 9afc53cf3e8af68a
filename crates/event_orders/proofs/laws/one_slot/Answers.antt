use Rattle.event_orders.specs.Small.{machine}
use Rattle.event_orders.proofs.OneSlot.{one_slot_law}
use Rattle.event_orders.proofs.Small.{is_machine}
use Rattle.event_orders.proofs.laws.one_slot.Goals as goal

pub returns : goal.returns
returns c = record { one_slot = λ p is. one_slot_law (machine p) (is_machine p is) }
