use Rattle.std.proofs.Common.{◌≡◌, drop, map}
use Rattle.std.specs.List.{list_any}
use Rattle.image_record.specs.Parts.{segment_model}
use Rattle.domain_check.specs.Segments as spec
use Rattle.domain_check.proofs.segments.shares_any.Given as goal

abbrev pub invariant-loop-other : goal.invariant-loop-other
invariant-loop-other l =
    list_any (spec.share_page (segment_model l.segment)) (map segment_model (drop l.other-index l.earlier))
    ≡ list_any (spec.share_page (segment_model l.segment)) (map segment_model l.earlier)
