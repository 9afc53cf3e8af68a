use Rattle.std.proofs.Common.{◌≡◌, drop, map}
use Rattle.std.specs.List.{list_any}
use Rattle.image_record.specs.Parts.{segment_model}
use Rattle.domain_check.specs.Capabilities as spec
use Rattle.domain_check.proofs.capabilities.lies_in_any.Given as goal

abbrev pub invariant-loop-segment : goal.invariant-loop-segment
invariant-loop-segment l =
    list_any (spec.lies_in l.page) (map segment_model (drop l.segment-index l.segments))
    ≡ list_any (spec.lies_in l.page) (map segment_model l.segments)
