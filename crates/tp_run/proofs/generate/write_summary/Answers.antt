use Rattle.std.proofs.lemmas.Result.{err_from_is_err_and}
use Rattle.tp_io.proofs.InTurn.{then_sends, cut_in_first, cut_between}
use Rattle.tp_report.specs.Demo.{demo_after}
use Rattle.tp_report.specs.Report.{ending}
use Rattle.tp_run.proofs.generate.write_summary.Goals as goal

pub returns-in_err-write_demo : goal.returns-in_err-write_demo
unfolding demo_after ending
returns-in_err-write_demo g c =
    let p = err_from_is_err_and c.from_residual.result c.from_residual.ensures.1 in
    rw p.1 (record { sends = cut_in_first _ _ _ _ (rw c.from.ensures at c.in_err-write_demo.ensures.sends) })

pub returns-in_err-write_lines : goal.returns-in_err-write_lines
unfolding demo_after ending
returns-in_err-write_lines g c =
    let p = err_from_is_err_and c.from_residual-in_err-write_lines.result c.from_residual-in_err-write_lines.ensures.1 in
    rw p.1 (record {
      sends =
          cut_between _ _ _ _ _ _ (rw c.from.ensures at c.in_ok-write_demo.ensures.sends)
          c.in_err-write_lines.ensures.sends;
    })

pub returns : goal.returns
unfolding demo_after ending
returns g c = record {
  sends = then_sends _ _ _ c.write_ending.result _ _ (rw c.from.ensures at c.in_ok-write_demo.ensures.sends)
      (then_sends _ _ _ c.write_ending.result _ _ c.in_ok-write_lines.ensures.sends c.write_ending.ensures.sends);
}
