use Rattle.image_gen.proofs.Decoded.{decoded_law}
use Rattle.image_gen.proofs.laws.decoded.Goals as goal

pub returns : goal.returns
returns c = record { decoded = decoded_law }
