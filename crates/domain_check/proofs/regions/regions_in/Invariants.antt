use Rattle.std.proofs.Common.{◌≡◌, ◌≤◌, ◌-◌, map}
use Rattle.image_record.specs.Parts.{segment_model}
use Rattle.domain_check.specs.Segments.{segment_of}
use Rattle.domain_check.specs.Pages as spec
use Rattle.domain_check.proofs.regions.regions_in.Given as goal

abbrev pub invariant-loop-region : goal.invariant-loop-region
invariant-loop-region l =
    (l.count ≡ spec.regions_below (map segment_of (map segment_model l.segments)) l.region) × (l.count ≤ l.region) × (l.region ≤ 1025)

abbrev pub decreases-loop-region : goal.decreases-loop-region
decreases-loop-region l = 1025 - l.region
