-- The law of the first version.
use Rattle.image_text.proofs.Calls.{first_version_law}
use Rattle.image_text.proofs.laws.first_version.Goals as goal

pub returns : goal.returns
returns c = record { calls = first_version_law }
