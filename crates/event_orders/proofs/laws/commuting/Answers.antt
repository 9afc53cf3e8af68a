use Rattle.event_orders.specs.Small.{machine}
use Rattle.event_orders.proofs.Commuting.{commute, pass}
use Rattle.event_orders.proofs.Small.{is_machine}
use Rattle.event_orders.proofs.laws.commuting.Goals as goal

pub returns : goal.returns
returns c =
    record { commute = λ p is. commute (machine p) (is_machine p is); pass = λ p is. pass (machine p) (is_machine p is) }
