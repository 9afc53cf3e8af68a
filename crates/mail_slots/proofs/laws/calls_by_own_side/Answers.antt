use Rattle.mail_slots.proofs.Sides.{send_law, receive_law}
use Rattle.mail_slots.proofs.Calls.{send_keeps_law, receive_keeps_law}
use Rattle.mail_slots.proofs.laws.calls_by_own_side.Goals as goal

pub returns : goal.returns
returns c = record {
  send = send_law;
  receive = receive_law;
  send_keeps = send_keeps_law;
  receive_keeps = receive_keeps_law;
}
