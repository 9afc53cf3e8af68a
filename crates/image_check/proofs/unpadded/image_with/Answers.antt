use Rattle.std.proofs.Common.{◌∙◌}
use Rattle.image_record.specs.Models.{raw_model}
use Rattle.image_check.proofs.Kept.{others_left}
use Rattle.image_check.proofs.unpadded.image_with.Goals as goal

pub image_of-requires-clause-accepted : goal.image_of-requires-clause-accepted
image_of-requires-clause-accepted c = others_left (raw_model c.args.raw) c.requires.before ∙ c.in_ok-entries.ensures.accepted
