use Rattle.std.proofs.Common.{◌≡◌, drop, map}
use Rattle.std.specs.List.{list_any}
use Rattle.image_record.specs.Parts.{segment_model}
use Rattle.domain_check.specs.Segments as spec
use Rattle.domain_check.proofs.segments.any_executes.Given as goal

abbrev pub invariant-loop-segment : goal.invariant-loop-segment
invariant-loop-segment l =
    list_any (spec.executes l.page) (map segment_model (drop l.segment-index l.segments))
    ≡ list_any (spec.executes l.page) (map segment_model l.segments)
