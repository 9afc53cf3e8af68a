use Rattle.image_check.proofs.Running.{harts_law}
use Rattle.image_check.proofs.laws.harts.Goals as goal

pub returns : goal.returns
returns c = record { harts = harts_law }
