-- From an empty batch to its end.
use Rattle.tp_report.proofs.Batches.{then_hands_on}
use Rattle.tp_report.proofs.bounds.write_bound_2.Goals as goal

pub returns : goal.returns
returns g c = record {
  sends =
      then_hands_on _ _ _ c.hand_on.result _ _
      (rw c.new-held.ensures.empty at c.in_ok-add_bounds.ensures.adds) c.hand_on.ensures.sends;
}
