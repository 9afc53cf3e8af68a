use Rattle.image_check.proofs.Kept.{extensions_law}
use Rattle.image_check.proofs.laws.extensions.Goals as goal

pub returns : goal.returns
returns c = record { extensions = extensions_law }
