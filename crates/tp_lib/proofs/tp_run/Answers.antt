use Rattle.std.proofs.Common.{subst, Option}
use Rattle.tp_answer.specs.Answer.{answer_by}
use Rattle.tp_words.specs.declared.Command.{Command}
use Rattle.tp_lib.specs.Answers.{Answers}
use Rattle.tp_lib.proofs.Told.{run_refused, run_isolated, run_padded}
use Rattle.tp_lib.proofs.tp_run.Goals as goal

pub returns : goal.returns
returns c =
    let answers =
    subst (λ (asked : Option Command). Answers (answer_by asked c.args.image.now) c.answer.result c.answer.new.taken c.args.text.now
    c.answer.new.text) c.ask_run.ensures.asked c.answer.ensures.answers in
    record {
      answers = answers;
      refused = run_refused _ _ _ _ _ _ answers;
      isolation = run_isolated _ _ _ _ _ _ answers;
      pad = run_padded _ _ _ _ _ _ answers;
    }
