use Rattle.std.proofs.Common.{◌≡◌, map, drop}
use Rattle.image_check.specs.Models.{segment_model}
use Rattle.world_view.specs.Opening.{rights_in}
use Rattle.domain_open.proofs.segments.rights_of.Given as goal

abbrev pub invariant-loop-segment : goal.invariant-loop-segment
invariant-loop-segment l =
    rights_in (map segment_model (drop l.segment-index l.segments)) l.page
    ≡ rights_in (map segment_model l.segments) l.page
