use Rattle.image_redact.proofs.Alike.{again_law}
use Rattle.image_redact.proofs.laws.again.Goals as goal

pub returns : goal.returns
returns c = record { again = again_law }
