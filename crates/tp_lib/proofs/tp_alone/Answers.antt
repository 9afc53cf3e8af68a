use Rattle.std.proofs.Common.{subst, Option}
use Rattle.tp_answer.specs.Answer.{answer_by}
use Rattle.tp_words.specs.declared.Command.{Command}
use Rattle.tp_lib.specs.Answers.{Answers}
use Rattle.tp_lib.proofs.Told.{alone_refused, alone_written, alone_same, alone_lacks}
use Rattle.tp_lib.proofs.tp_alone.Goals as goal

pub returns : goal.returns
returns c =
    let answers =
    subst (λ (asked : Option Command). Answers (answer_by asked c.args.image.now) c.answer.result c.answer.new.taken c.args.text.now
    c.answer.new.text) c.ask_alone.ensures.asked c.answer.ensures.answers in
    record {
      answers = answers;
      refused = alone_refused _ _ _ _ _ _ _ answers;
      no_domain = λ domain few. alone_lacks _ _ _ _ _ _ _ domain few answers;
      alone = alone_written _ _ _ _ _ _ _ answers;
      same_section = alone_same _ _ _ _ _ _ _ answers;
    }
