use Rattle.image_check.proofs.Running.{named_law}
use Rattle.image_check.proofs.laws.named.Goals as goal

pub returns : goal.returns
returns c = record { named = named_law }
