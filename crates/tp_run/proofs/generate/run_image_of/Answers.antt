use Rattle.std.proofs.Common.{subst₂, ℕ}
use Rattle.image_record.specs.Record as text
use Rattle.image_check.specs.Image.{image_from}
use Rattle.tp_io.specs.Sink.{state}
use Rattle.tp_report.specs.Demo.{demo_after, demo_text}
use Rattle.tp_answer.specs.declared.status.Status.TheVariants.{Done}
use Rattle.tp_answer.specs.TopCall.{Delivers}
use Rattle.tp_answer.proofs.Answers.{delivered, nothing_held}
use Rattle.tp_run.proofs.generate.run_image_of.Goals as goal

pub returns-in-Err : goal.returns-in-Err
returns-in-Err g c = record { delivers = nothing_held _ _ }

pub returns-in-Ok : goal.returns-in-Ok
unfolding demo_text
returns-in-Ok g c =
    let m = c.in-Ok.machine in
    let s = c.args.seed in
    let old = state g.K.Sink c.args.out.now in
    let new = state g.K.Sink c.write_summary.new.out in
    record {
      delivers =
          subst₂ (λ (x : text.Raw) (n : ℕ).
          Delivers (Done, demo_after (image_from x) n s) c.status_unless_failed-status.result old new)
          c.in-Ok.ensures.image c.in-Ok.ensures.slots
          (delivered Done c.status_unless_failed-status.result
          (demo_after (image_from m.record_of) m.slots s) old new c.write_summary.result tt
          c.write_summary.ensures.sends c.status_unless_failed-status.ensures.ok
          c.status_unless_failed-status.ensures.err);
    }
