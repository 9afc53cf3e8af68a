use Rattle.tp_report.proofs.ReportLaws.{reported_apart}
use Rattle.tp_report.proofs.laws.isolation.Goals as goal

pub returns : goal.returns
returns c = record { reported = reported_apart }
