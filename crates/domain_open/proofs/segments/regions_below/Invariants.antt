use Rattle.std.proofs.Common.{◌≡◌, ◌≤◌, map}
use Rattle.image_check.specs.Models.{segment_model}
use Rattle.image_check.specs.Pages.{regions_below}
use Rattle.domain_open.proofs.segments.regions_below.Given as goal

abbrev pub invariant-loop-r : goal.invariant-loop-r
invariant-loop-r l = record {
  below : l.regions ≡ regions_below (map segment_model l.segments) l.r;
  few : l.regions ≤ l.r;
}
