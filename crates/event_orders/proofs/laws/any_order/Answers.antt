use Rattle.event_orders.specs.Small.{machine}
use Rattle.event_orders.proofs.Drawn.{counted_law, drawn_law}
use Rattle.event_orders.proofs.Small.{is_machine}
use Rattle.event_orders.proofs.laws.any_order.Goals as goal

pub returns : goal.returns
returns c = record {
  counted = λ p is. counted_law (machine p) (is_machine p is);
  drawn = λ p is. drawn_law (machine p) (is_machine p is);
}
