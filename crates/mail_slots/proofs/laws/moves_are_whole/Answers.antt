use Rattle.mail_slots.proofs.Moves.{end_moves_law, begin_moves_law, end_once_law, begin_once_law, quiet_law, follow_law}
use Rattle.mail_slots.proofs.laws.moves_are_whole.Goals as goal

pub returns : goal.returns
returns c = record {
  end = end_moves_law;
  begin = begin_moves_law;
  end_once = end_once_law;
  begin_once = begin_once_law;
  quiet = quiet_law;
  follow = follow_law;
}
