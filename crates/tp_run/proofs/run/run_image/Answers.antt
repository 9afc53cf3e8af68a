use Rattle.std.proofs.Common.{◌≡◌, ◌∙◌, ℕ, List, ap, ap₂, subst}
use Rattle.image_record.specs.Record as text
use Rattle.image_check.specs.Image.{image_from}
use Rattle.hart_orders.specs.Order.{ran}
use Rattle.hart_orders.specs.declared.choice.Choice.{Choice}
use Rattle.tp_io.specs.Sink.{state}
use Rattle.tp_report.specs.Report.{report_of}
use Rattle.tp_answer.specs.Runs.{report}
use Rattle.tp_answer.specs.declared.status.Status.TheVariants.{Done}
use Rattle.tp_answer.specs.TopCall.{Delivers}
use Rattle.tp_answer.proofs.Answers.{delivered, nothing_held}
use Rattle.tp_run.proofs.run.run_image.Goals as goal

pub returns-in-Err : goal.returns-in-Err
returns-in-Err g c = record { delivers = nothing_held _ _ }

-- the text of a run by these parts
abbrev of_parts : text.Raw → Choice → ℕ → List ℕ
of_parts t c n = report_of (image_from t) (ran (image_from t) c n)

pub returns-in-Ok : goal.returns-in-Ok
unfolding report
returns-in-Ok g c =
    let r = c.in-Ok.run' in
    let same : of_parts r.record_of r.choice r.slots ≡ report (image_from c.args.image.now) c.args.choice c.args.slots =
    ap (λ (t : text.Raw). of_parts t r.choice r.slots) c.in-Ok.ensures.image
    ∙ ap₂ (λ (x : Choice) (n : ℕ). of_parts c.args.image.now x n) c.in-Ok.ensures.choice c.in-Ok.ensures.slots in
    let old = state g.K.Sink c.args.out.now in
    let new = state g.K.Sink c.write_report.new.out in
    record {
      delivers = subst (λ (t : List ℕ). Delivers (Done, t) c.status_unless_failed-status.result old new) same
          (delivered Done c.status_unless_failed-status.result (of_parts r.record_of r.choice r.slots) old
          new c.write_report.result tt c.write_report.ensures.sends
          c.status_unless_failed-status.ensures.ok c.status_unless_failed-status.ensures.err);
    }
