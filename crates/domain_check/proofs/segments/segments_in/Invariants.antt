use Rattle.std.proofs.Common.{◌≡◌, ◌++◌, take, drop, map}
use Rattle.image_record.specs.Parts.{segment_model}
use Rattle.image_record.specs.Cases.{first_case, first_in}
use Rattle.domain_check.specs.Models.{segment_model as part_model}
use Rattle.domain_check.specs.Segments as spec
use Rattle.domain_check.proofs.segments.segments_in.Given as goal

abbrev pub invariant-loop-place : goal.invariant-loop-place
invariant-loop-place l =
    (first_case (spec.segment_case l.d) (map segment_model (take l.place l.texts)) (map segment_model (drop l.place l.texts))
    ≡ first_in (spec.segment_case l.d) (map segment_model l.texts))
    × (map part_model l.segments.items ++ map spec.segment_of (map segment_model (drop l.place l.texts))
    ≡ map spec.segment_of (map segment_model l.texts))
