use Rattle.std.proofs.Common.{◌≡◌, take, drop, map}
use Rattle.image_record.specs.Parts.{domain_model}
use Rattle.image_record.specs.Cases.{first_case, first_in}
use Rattle.domain_check.specs.Names as spec
use Rattle.domain_check.proofs.names.named_so.Given as goal

abbrev pub invariant-loop-e : goal.invariant-loop-e
invariant-loop-e l =
    first_case (spec.named_so l.name) (map domain_model (take l.e l.domains))
    (map domain_model (drop l.e l.domains)) ≡ first_in (spec.named_so l.name) (map domain_model l.domains)
