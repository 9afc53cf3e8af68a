use Rattle.mail_slots.proofs.Moves.{opening_pairs_law, pairs_law, opening_fit_law, fit_law}
use Rattle.mail_slots.proofs.laws.boxes_stay.Goals as goal

pub returns : goal.returns
returns c = record {
  opening_pairs = opening_pairs_law;
  pairs = pairs_law;
  opening_fit = opening_fit_law;
  fit = fit_law;
}
