use Rattle.tp_report.specs.Report.{shared_parts_text}
use Rattle.tp_report.proofs.bounds.write_shared_parts.Goals as goal

pub returns : goal.returns
unfolding shared_parts_text
returns g c =
    let is = c.bound-parts.ensures in
    record { adds = rw (is.instruction, is.leave, is.prefetch, is.flush, is.enter) at c.add_pieces.ensures.adds }
