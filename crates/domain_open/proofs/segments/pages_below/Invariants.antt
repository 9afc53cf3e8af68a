use Rattle.std.proofs.Common.{◌≡◌, ◌+◌, map, drop}
use Rattle.image_check.specs.Models.{segment_model}
use Rattle.image_check.specs.Pages.{pages_below}
use Rattle.domain_open.proofs.segments.pages_below.Given as goal

abbrev pub invariant-loop-segment : goal.invariant-loop-segment
invariant-loop-segment l =
    l.pages + pages_below (map segment_model (drop l.segment-index l.segments)) l.page
    ≡ pages_below (map segment_model l.segments) l.page
