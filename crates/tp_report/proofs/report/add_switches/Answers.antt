use Rattle.std.proofs.lemmas.Result.{err_from_is_err_and}
use Rattle.tp_report.proofs.Batches.{then_adds, cut_in_first}
use Rattle.tp_report.specs.Report.{end_text}
use Rattle.tp_report.specs.Switches.{ending_text}
use Rattle.tp_report.proofs.report.add_switches.Goals as goal

pub returns-in_err-write_lines : goal.returns-in_err-write_lines
unfolding ending_text
returns-in_err-write_lines g c =
    let p = err_from_is_err_and c.from_residual.result c.from_residual.ensures.1 in
    rw p.1 (record { adds = cut_in_first _ _ _ _ c.in_err-write_lines.ensures.adds })

pub returns : goal.returns
unfolding ending_text end_text
returns g c = record { adds = then_adds _ _ _ c.add.result _ _ c.in_ok-write_lines.ensures.adds c.add.ensures.adds }
