use Rattle.std.proofs.Common.{◌≡◌, take, drop, map}
use Rattle.image_record.specs.Parts.{domain_model}
use Rattle.image_record.specs.Cases.{first_case, first_in}
use Rattle.domain_check.specs.Calls as spec
use Rattle.domain_check.proofs.calls.k18.Given as goal

abbrev pub invariant-loop-d : goal.invariant-loop-d
invariant-loop-d l =
    first_case spec.k18_domain (map domain_model (take l.d l.raw.domains.items)) (map domain_model (drop l.d l.raw.domains.items))
    ≡ first_in spec.k18_domain (map domain_model l.raw.domains.items)
