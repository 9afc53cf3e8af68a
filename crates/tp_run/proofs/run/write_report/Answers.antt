use Rattle.std.proofs.lemmas.Result.{err_from_is_err_and}
use Rattle.tp_io.proofs.InTurn.{then_sends, cut_in_first}
use Rattle.tp_answer.proofs.Reports.{report_parts}
use Rattle.tp_run.proofs.run.write_report.Goals as goal

pub returns-in_err-write_sections : goal.returns-in_err-write_sections
returns-in_err-write_sections g c =
    let m = c.args.machine.now in
    let p = err_from_is_err_and c.from_residual.result c.from_residual.ensures.1 in
    rw (p.1, report_parts (g.M.Reported.image m) (g.M.Reported.world m))
    (record { sends = cut_in_first _ _ _ _ c.in_err-write_sections.ensures.sends })

pub returns : goal.returns
returns g c =
    let m = c.args.machine.now in
    rw (report_parts (g.M.Reported.image m) (g.M.Reported.world m)) (record {
      sends = then_sends _ _ _ c.write_ending.result _ _ c.in_ok-write_sections.ensures.sends c.write_ending.ensures.sends;
    })
