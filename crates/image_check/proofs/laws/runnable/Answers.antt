use Rattle.image_check.proofs.Running.{runnable_law}
use Rattle.image_check.proofs.laws.runnable.Goals as goal

pub returns : goal.returns
returns c = record { runnable = runnable_law }
