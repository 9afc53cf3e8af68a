-- The law of ranges.
use Rattle.image_text.proofs.Ranges.{ranges_law}
use Rattle.image_text.proofs.laws.ranges.Goals as goal

pub returns : goal.returns
returns c = record { ranges = ranges_law }
