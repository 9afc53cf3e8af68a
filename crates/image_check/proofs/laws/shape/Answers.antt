use Rattle.image_check.proofs.Padded.{shape_law}
use Rattle.image_check.proofs.laws.shape.Goals as goal

pub returns : goal.returns
returns c = record { shape = shape_law }
