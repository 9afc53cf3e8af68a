use Rattle.image_check.proofs.Running.{one_hart_law}
use Rattle.image_check.proofs.laws.one_hart.Goals as goal

pub returns : goal.returns
returns c = record { one = one_hart_law }
