use Rattle.event_orders.proofs.Two.{is_two}
use Rattle.event_orders.proofs.laws.example.Goals as goal

pub returns : goal.returns
returns c = record { two = is_two }
