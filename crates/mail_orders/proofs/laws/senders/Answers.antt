use Rattle.mail_orders.proofs.Apart.{same_turns, own_hart, apart_law, nothing_back}
use Rattle.mail_orders.proofs.laws.senders.Goals as goal

pub returns : goal.returns
returns c = record { same_turns = same_turns; own_hart = own_hart; apart = apart_law; nothing_back = nothing_back }
