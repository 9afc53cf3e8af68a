use Rattle.std.proofs.Common.{◌≡◌, take, drop, map}
use Rattle.image_record.specs.Parts.{domain_model}
use Rattle.image_record.specs.Cases.{first_case, first_in}
use Rattle.schedule_check.specs.Interrupts as spec
use Rattle.schedule_check.proofs.interrupts.lined_so.Given as goal

abbrev pub invariant-loop-e : goal.invariant-loop-e
invariant-loop-e l =
    first_case (spec.lined_so l.line) (map domain_model (take l.e l.domains))
    (map domain_model (drop l.e l.domains)) ≡ first_in (spec.lined_so l.line) (map domain_model l.domains)
