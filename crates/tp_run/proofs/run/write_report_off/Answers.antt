use Rattle.std.proofs.lemmas.Result.{err_from_is_err_and}
use Rattle.tp_io.proofs.InTurn.{then_sends, cut_in_first}
use Rattle.tp_report.specs.Report.{report_off}
use Rattle.tp_run.proofs.run.write_report_off.Goals as goal

pub returns-in_err-write_unprotected : goal.returns-in_err-write_unprotected
unfolding report_off
returns-in_err-write_unprotected g c =
    let p = err_from_is_err_and c.from_residual.result c.from_residual.ensures.1 in
    rw p.1 (record { sends = cut_in_first _ _ _ _ (rw c.off.ensures.off at c.in_err-write_unprotected.ensures.sends) })

pub returns : goal.returns
unfolding report_off
returns g c = record {
  sends = then_sends _ _ _ c.write_report.result _ _
      (rw c.off.ensures.off at c.in_ok-write_unprotected.ensures.sends) c.write_report.ensures.sends;
}
