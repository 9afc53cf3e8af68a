use Rattle.std.proofs.Common.{sym, subst}
use Rattle.tp_io.specs.Sink.{state}
use Rattle.tp_answer.specs.Answer.{Answer}
use Rattle.tp_answer.specs.TopCall.{Delivers}
use Rattle.tp_answer.specs.declared.status.Status.TheVariants.{Done, Refused}
use Rattle.tp_answer.proofs.Answers.{delivered, refusal_due, wrote_of}
use Rattle.tp_answer.proofs.accept.refuse.Goals as goal

pub returns-in-Broken : goal.returns-in-Broken
returns-in-Broken g c =
    let named =
    delivered Refused c.status_unless_failed.result _ (state g.K.Sink c.args.out.now) (state g.K.Sink c.write_refusal.new.out)
    c.write_refusal.result tt c.write_refusal.ensures.sends c.status_unless_failed.ensures.ok c.status_unless_failed.ensures.err in
    record {
      delivers = λ asked found broken.
          subst (λ (due : Answer). Delivers due c.status_unless_failed.result (state g.K.Sink c.args.out.now)
          (state g.K.Sink c.write_refusal.new.out))
          (sym (refusal_due asked found c.in-Broken.refusal (rw c.in-Broken.is at broken))) named;
      never_done = λ e. cc (wrote_of Done named e).0;
    }
