use Rattle.std.proofs.Common.{◌≡◌, ◌≤◌, ◌+◌, ◌*◌, ◌^◌, drop, map}
use Rattle.image_record.specs.Parts.{segment_model}
use Rattle.domain_check.specs.Segments.{segment_of}
use Rattle.domain_check.specs.Pages as spec
use Rattle.domain_check.proofs.regions.pages_in.Given as goal

abbrev pub invariant-loop-segment : goal.invariant-loop-segment
invariant-loop-segment l =
    (l.pages + spec.pages_in (map segment_of (map segment_model (drop l.segment-index l.segments)))
    ≡ spec.pages_in (map segment_of (map segment_model l.segments)))
    × (l.pages ≤ l.segment-index * 2 ^ 32)
