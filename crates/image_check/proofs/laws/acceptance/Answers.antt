use Rattle.image_check.proofs.Kept.{acceptance_law}
use Rattle.image_check.proofs.laws.acceptance.Goals as goal

pub returns : goal.returns
returns c = record { acceptance = acceptance_law }
