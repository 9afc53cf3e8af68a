use Rattle.call_table.proofs.MailCalls.{send_means, receive_means}
use Rattle.call_table.proofs.laws.mail_calls.Goals as goal

pub returns : goal.returns
returns c = record { send = send_means; receive = receive_means }
