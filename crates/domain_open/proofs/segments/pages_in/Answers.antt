use Rattle.std.proofs.Common.{◌∙◌, map}
use Rattle.image_check.specs.Models.{segment_model}
use Rattle.domain_open.proofs.Pages.{pages_all}
use Rattle.domain_open.proofs.segments.pages_in.Goals as goal

pub returns : goal.returns
returns c = record { value = c.pages_below.ensures.value ∙ pages_all (map segment_model c.args.segments.now) c.requires.sound }
