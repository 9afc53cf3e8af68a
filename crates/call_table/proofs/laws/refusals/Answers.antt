use Rattle.call_table.proofs.Refusals.{refusals, left_out}
use Rattle.call_table.proofs.laws.refusals.Goals as goal

pub returns : goal.returns
returns c = record { refused = refusals; left_out = left_out }
