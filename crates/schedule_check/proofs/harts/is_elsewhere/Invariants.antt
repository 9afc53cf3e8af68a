use Rattle.std.proofs.Common.{◌≡◌, drop}
use Rattle.std.specs.List.{list_any}
use Rattle.schedule_check.specs.Harts as spec
use Rattle.schedule_check.proofs.harts.is_elsewhere.Given as goal

abbrev pub invariant-loop-other : goal.invariant-loop-other
invariant-loop-other l =
    list_any (spec.is_elsewhere l.entry) (drop l.other-index l.earlier)
    ≡ list_any (spec.is_elsewhere l.entry) l.earlier
