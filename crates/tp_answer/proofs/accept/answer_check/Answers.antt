use Rattle.std.proofs.Common.{sym, subst}
use Rattle.tp_io.specs.Sink.{state}
use Rattle.tp_answer.specs.Answer.{Answer, answer_of_record}
use Rattle.tp_answer.specs.Reading.{record_for}
use Rattle.tp_answer.specs.TopCall.{Delivers}
use Rattle.tp_words.specs.declared.Command.TheVariants.{Check}
use Rattle.tp_answer.specs.declared.status.Status.TheVariants.{Done}
use Rattle.tp_answer.proofs.Answers.{delivered, found_due}
use Rattle.tp_answer.proofs.accept.answer_check.Goals as goal

pub returns-in-Ok : goal.returns-in-Ok
unfolding answer_of_record
returns-in-Ok g c = record {
  delivers =
      subst (λ (due : Answer). Delivers due c.status_unless_failed.result (state g.K.Sink c.args.out.now)
      (state g.K.Sink c.write_accepted.new.out))
      (sym (found_due Check (record_for Check c.args.bytes.now) _ c.in-Ok.ensures.check))
      (delivered Done c.status_unless_failed.result _ _ _ c.write_accepted.result tt
      c.write_accepted.ensures.sends c.status_unless_failed.ensures.ok c.status_unless_failed.ensures.err);
}
