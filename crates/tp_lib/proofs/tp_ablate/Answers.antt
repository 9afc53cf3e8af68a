use Rattle.std.proofs.Common.{subst, Option}
use Rattle.tp_answer.specs.Answer.{answer_by}
use Rattle.tp_words.specs.declared.Command.{Command}
use Rattle.tp_lib.specs.Answers.{Answers}
use Rattle.tp_lib.proofs.Told.{ablate_refused, ablate_written, ablate_many}
use Rattle.tp_lib.proofs.tp_ablate.Goals as goal

pub returns : goal.returns
returns c =
    let answers =
    subst (λ (asked : Option Command). Answers (answer_by asked c.args.image.now) c.answer.result c.answer.new.taken c.args.text.now
    c.answer.new.text) c.ask_ablate.ensures.asked c.answer.ensures.answers in
    record {
      answers = answers;
      refused = λ guard named. ablate_refused _ _ _ _ _ _ _ guard named answers;
      many_harts = λ guard named few. ablate_many _ _ _ _ _ _ _ guard named few answers;
      unprotected = λ guard named. ablate_written _ _ _ _ _ _ _ guard named answers;
    }
