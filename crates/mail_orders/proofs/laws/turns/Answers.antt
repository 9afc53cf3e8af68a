use Rattle.mail_orders.proofs.Ends.{due}
use Rattle.mail_orders.proofs.Turns.{turns, boots}
use Rattle.mail_orders.proofs.laws.turns.Goals as goal

pub returns : goal.returns
returns c = record { due = due; turns = turns; boots = boots }
