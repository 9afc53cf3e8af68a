use Rattle.event_orders.specs.Small.{machine}
use Rattle.event_orders.proofs.Ends.{ends_law}
use Rattle.event_orders.proofs.Slots.{slots_law}
use Rattle.event_orders.proofs.Sorted.{sorted_law}
use Rattle.event_orders.proofs.Small.{is_machine}
use Rattle.event_orders.proofs.laws.least_clock.Goals as goal

pub returns : goal.returns
returns c = record {
  ends = λ p is. ends_law (machine p) (is_machine p is);
  slots = λ p is. slots_law (machine p) (is_machine p is);
  sorted = λ p is. sorted_law (machine p) (is_machine p is);
}
