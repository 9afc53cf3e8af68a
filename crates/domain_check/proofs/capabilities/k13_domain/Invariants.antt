use Rattle.std.proofs.Common.{◌≡◌, ◌++◌, take, drop, map}
use Rattle.std.specs.Prelude.{string_bytes}
use Rattle.image_record.specs.Parts.{domain_model}
use Rattle.image_record.specs.Cases.{first_case, first_in}
use Rattle.domain_check.specs.Models.{named_model}
use Rattle.domain_check.specs.Capabilities as spec
use Rattle.domain_check.proofs.capabilities.k13_domain.Given as goal

abbrev pub invariant-loop-slot : goal.invariant-loop-slot
invariant-loop-slot l =
    (first_case (spec.k13_case (domain_model l.domain) l.d) (map (λ s. string_bytes s) (take l.slot l.caps))
    (map (λ s. string_bytes s) (drop l.slot l.caps))
    ≡ first_in (spec.k13_case (domain_model l.domain) l.d) (map (λ s. string_bytes s) l.caps))
    × (map named_model l.found.items ++ map spec.cap_of (map (λ s. string_bytes s) (drop l.slot l.caps))
    ≡ map spec.cap_of (map (λ s. string_bytes s) l.caps))
