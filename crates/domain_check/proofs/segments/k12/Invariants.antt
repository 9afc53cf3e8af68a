use Rattle.std.proofs.Common.{◌≡◌, ◌++◌, take, drop, map}
use Rattle.image_record.specs.Parts.{domain_model}
use Rattle.image_record.specs.Cases.{first_case, first_in}
use Rattle.domain_check.specs.Models.{segment_model as part_model}
use Rattle.domain_check.specs.Segments as spec
use Rattle.domain_check.proofs.segments.k12.Given as goal

abbrev pub invariant-loop-d : goal.invariant-loop-d
invariant-loop-d l =
    (first_case spec.k12_domain (map domain_model (take l.d l.domains)) (map domain_model (drop l.d l.domains))
    ≡ first_in spec.k12_domain (map domain_model l.domains))
    × (map (λ s. map part_model s.items) l.segments.items ++ map spec.segments_of (map domain_model (drop l.d l.domains))
    ≡ map spec.segments_of (map domain_model l.domains))
