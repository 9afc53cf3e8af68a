use Rattle.std.proofs.Common.{subst, subst₂, ℕ}
use Rattle.guards.specs.declared.Guard.{Guard}
use Rattle.image_record.specs.Record as text
use Rattle.image_check.specs.Image.{image_from}
use Rattle.tp_io.specs.Sink.{state}
use Rattle.tp_report.specs.Report.{report_off}
use Rattle.tp_answer.specs.declared.status.Status.TheVariants.{Done}
use Rattle.tp_answer.specs.TopCall.{Delivers}
use Rattle.tp_answer.proofs.Answers.{delivered, nothing_held}
use Rattle.tp_run.proofs.run.run_off.Goals as goal

pub returns-in-Err : goal.returns-in-Err
returns-in-Err g c = record { delivers = nothing_held _ _ }

pub returns-in-Ok : goal.returns-in-Ok
returns-in-Ok g c =
    let m = c.in-Ok.machine in
    let old = state g.K.Sink c.args.out.now in
    let new = state g.K.Sink c.write_report_off.new.out in
    let result = c.status_unless_failed-status.result in
    let done = delivered Done result (report_off m.off (image_from m.record_of) m.slots) old new c.write_report_off.result tt
    c.write_report_off.ensures.sends c.status_unless_failed-status.ensures.ok c.status_unless_failed-status.ensures.err in
    let its = subst (λ (off : Guard). Delivers (Done, report_off off (image_from m.record_of) m.slots) result old new)
    c.in-Ok.ensures.off done in
    record {
      delivers = subst₂ (λ (x : text.Raw) (n : ℕ). Delivers (Done, report_off c.args.off (image_from x) n) result old new)
          c.in-Ok.ensures.image c.in-Ok.ensures.slots its;
    }
