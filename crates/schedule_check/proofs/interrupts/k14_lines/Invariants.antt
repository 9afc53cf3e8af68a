use Rattle.std.proofs.Common.{◌≡◌, ◌++◌, take, drop, map}
use Rattle.image_record.specs.Parts.{domain_model}
use Rattle.image_record.specs.Cases.{first_case, first_in}
use Rattle.image_record.specs.Numbers.{natural_of}
use Rattle.schedule_check.specs.Interrupts as spec
use Rattle.schedule_check.proofs.interrupts.k14_lines.Given as goal

abbrev pub invariant-loop-place : goal.invariant-loop-place
invariant-loop-place l =
    (first_case (spec.k14_line (map domain_model l.domains)) (take l.place l.lines) (drop l.place l.lines)
    ≡ first_in (spec.k14_line (map domain_model l.domains)) l.lines)
    × (l.found.items ++ map natural_of (drop l.place l.lines) ≡ map natural_of l.lines)
