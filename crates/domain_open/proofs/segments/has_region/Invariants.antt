use Rattle.std.proofs.Common.{◌≡◌, map, drop}
use Rattle.image_check.specs.Models.{segment_model}
use Rattle.image_check.specs.Pages.{has_region}
use Rattle.domain_open.proofs.segments.has_region.Given as goal

abbrev pub invariant-loop-segment : goal.invariant-loop-segment
invariant-loop-segment l =
    has_region (map segment_model (drop l.segment-index l.segments)) l.region
    ≡ has_region (map segment_model l.segments) l.region
