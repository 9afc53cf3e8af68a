use Rattle.world_view.proofs.mail.Waiting.{waits_law, kept_law}
use Rattle.world_view.proofs.mail.Arriving.{arrives_law, nothing_else_law}
use Rattle.world_view.proofs.mail.Senders.{senders_law, one_way_law}
use Rattle.world_view.proofs.laws.boxes.Goals as goal

pub returns : goal.returns
returns c = record {
  waits = waits_law;
  kept = kept_law;
  arrives = arrives_law;
  nothing_else = nothing_else_law;
  senders = senders_law;
  one_way = one_way_law;
}
