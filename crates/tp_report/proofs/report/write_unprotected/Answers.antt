use Rattle.tp_report.specs.Report.{unprotected_text}
use Rattle.tp_report.proofs.report.write_unprotected.Goals as goal

pub returns : goal.returns
unfolding unprotected_text
returns g c = record { sends = rw c.name.ensures.name at c.write_pieces.ensures.sends }
