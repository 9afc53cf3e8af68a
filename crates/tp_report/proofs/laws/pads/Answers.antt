use Rattle.tp_report.proofs.ReportLaws.{says_within}
use Rattle.tp_report.proofs.laws.pads.Goals as goal

pub returns : goal.returns
returns c = record { lines = says_within }
