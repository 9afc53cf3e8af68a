use Rattle.tp_lib.proofs.Told.{check_refused, check_accepted}
use Rattle.tp_lib.proofs.tp_check.Goals as goal

pub returns : goal.returns
returns c =
    let answers = c.answer.ensures.answers in
    record {
      answers = answers;
      refused = check_refused _ _ _ _ _ answers;
      accepted = check_accepted _ _ _ _ _ answers;
    }
