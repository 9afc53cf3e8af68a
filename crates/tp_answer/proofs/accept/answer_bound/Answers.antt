use Rattle.std.proofs.Common.{sym, subst}
use Rattle.tp_io.specs.Sink.{state}
use Rattle.tp_answer.specs.Answer.{Answer, answer_of_record}
use Rattle.tp_answer.specs.Reading.{record_for}
use Rattle.tp_answer.specs.TopCall.{Delivers}
use Rattle.tp_words.specs.declared.Command.TheVariants.{Bound}
use Rattle.tp_answer.proofs.Answers.{found_due}
use Rattle.tp_answer.proofs.accept.answer_bound.Goals as goal

pub returns-in-Ok : goal.returns-in-Ok
unfolding answer_of_record
returns-in-Ok g c = record {
  delivers =
      subst (λ (due : Answer). Delivers due c.write_bounds-status.result (state g.K.Sink c.args.out.now)
      (state g.K.Sink c.write_bounds-status.new.out))
      (sym (found_due Bound (record_for Bound c.args.bytes.now) _ c.in-Ok.ensures.accepts)) c.write_bounds-status.ensures.delivers;
}
