use Rattle.tp_report.specs.Report.{entry_line}
use Rattle.tp_report.proofs.bounds.write_entry.Goals as goal

pub returns : goal.returns
unfolding entry_line
returns g c =
    let is = c.bound_from-of_entry.ensures in
    record { adds = rw (c.from.ensures, is.operation, is.total) at c.add_pieces.ensures.adds }
