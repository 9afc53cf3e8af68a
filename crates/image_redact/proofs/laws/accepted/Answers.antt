use Rattle.image_redact.proofs.Kept.{accepted_law}
use Rattle.image_redact.proofs.Ranges.{ranges_law}
use Rattle.image_redact.proofs.laws.accepted.Goals as goal

pub returns : goal.returns
returns c = record { accepted = accepted_law; ranges = ranges_law }
