use Rattle.image_redact.proofs.Leading.{kept_law}
use Rattle.image_redact.proofs.laws.kept.Goals as goal

pub returns : goal.returns
returns c = record { kept = kept_law }
