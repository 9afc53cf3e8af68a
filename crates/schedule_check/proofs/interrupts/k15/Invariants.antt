use Rattle.std.proofs.Common.{◌≡◌, ◌++◌, take, drop, map}
use Rattle.image_record.specs.Parts.{domain_model}
use Rattle.image_record.specs.Cases.{first_case, first_in}
use Rattle.schedule_check.specs.Interrupts as spec
use Rattle.schedule_check.proofs.interrupts.k15.Given as goal

abbrev pub invariant-loop-d : goal.invariant-loop-d
invariant-loop-d l =
    (first_case spec.k15_domain (map domain_model (take l.d l.domains)) (map domain_model (drop l.d l.domains))
    ≡ first_in spec.k15_domain (map domain_model l.domains))
    × (map (λ v. v.items) l.moments.items ++ map spec.own_moments (map domain_model (drop l.d l.domains))
    ≡ map spec.own_moments (map domain_model l.domains))
