use Rattle.lend_check.proofs.Causes.{cause}
use Rattle.lend_check.proofs.laws.causes.Goals as goal

pub returns : goal.returns
returns c = record { cause = cause }
