use Rattle.tp_lib.proofs.Told.{bound_refused, bound_told}
use Rattle.tp_lib.proofs.tp_bound.Goals as goal

pub returns : goal.returns
returns c =
    let answers = c.answer.ensures.answers in
    record {
      answers = answers;
      refused = bound_refused _ _ _ _ _ answers;
      bound = bound_told _ _ _ _ _ answers;
    }
