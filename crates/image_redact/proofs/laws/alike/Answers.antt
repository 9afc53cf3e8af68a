use Rattle.image_redact.proofs.Alike.{alike_law}
use Rattle.image_redact.proofs.laws.alike.Goals as goal

pub returns : goal.returns
returns c = record { alike = alike_law }
