use Rattle.mail_slots.proofs.Calls.{send_cases_law, receive_cases_law, unread_law}
use Rattle.mail_slots.proofs.laws.calls_by_cases.Goals as goal

pub returns : goal.returns
returns c = record { send = send_cases_law; receive = receive_cases_law; unread = unread_law }
