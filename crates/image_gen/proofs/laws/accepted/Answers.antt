use Rattle.image_gen.proofs.Kept.{accepted_law}
use Rattle.image_gen.proofs.laws.accepted.Goals as goal

pub returns : goal.returns
returns c = record { accepted = accepted_law }
