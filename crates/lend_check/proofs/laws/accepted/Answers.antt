use Rattle.lend_check.proofs.Kept.{accepted}
use Rattle.lend_check.proofs.laws.accepted.Goals as goal

pub returns : goal.returns
returns c = record { accepted = accepted }
