use Rattle.call_table.proofs.CallLawsDelete.{calls_keep}
use Rattle.call_table.proofs.laws.calls_keep.Goals as goal

pub returns : goal.returns
returns c = record { kept = calls_keep }
