use Rattle.std.proofs.Common.{◌∙◌, subst, Option}
use Rattle.tp_answer.specs.Answer.{answer_by}
use Rattle.tp_words.specs.declared.Command.{Command}
use Rattle.tp_lib.specs.Answers.{Answers}
use Rattle.tp_lib.proofs.Told.{redact_refused, redact_lacks, redact_done}
use Rattle.tp_lib.proofs.tp_redact.Goals as goal

pub returns : goal.returns
returns c =
    let answers =
    subst (λ (asked : Option Command). Answers (answer_by asked c.args.image.now) c.answer.result c.answer.new.taken c.args.text.now
    c.answer.new.text) c.ask_redact.ensures.asked c.answer.ensures.answers in
    record {
      answers = answers;
      refused = redact_refused _ _ _ _ _ _ answers;
      no_domain = λ domain. redact_lacks _ _ _ _ _ _ domain answers;
      redacted = redact_done _ _ _ _ _ _ answers
          (λ own. c.answer.ensures.kept_reads_back c.args.domain (c.ask_redact.ensures.asked ∙ own));
    }
