use Rattle.std.proofs.Common.{◌≡◌, ◌++◌, take, drop, map}
use Rattle.image_record.specs.Parts.{moment_model}
use Rattle.image_record.specs.Cases.{first_case, first_in}
use Rattle.schedule_check.specs.Interrupts as spec
use Rattle.schedule_check.proofs.interrupts.k15_domain.Given as goal

abbrev pub invariant-loop-place : goal.invariant-loop-place
invariant-loop-place l =
    (first_case (spec.k15_moment l.domain.lines.items l.d) (map moment_model (take l.place l.moments))
    (map moment_model (drop l.place l.moments))
    ≡ first_in (spec.k15_moment l.domain.lines.items l.d) (map moment_model l.moments))
    × (l.found.items ++ map spec.moment_of (map moment_model (drop l.place l.moments))
    ≡ map spec.moment_of (map moment_model l.moments))
