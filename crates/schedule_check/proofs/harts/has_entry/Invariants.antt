use Rattle.std.proofs.Common.{◌≡◌, drop}
use Rattle.schedule_check.specs.Harts as spec
use Rattle.schedule_check.proofs.harts.has_entry.Given as goal

abbrev pub invariant-loop-entry : goal.invariant-loop-entry
invariant-loop-entry l = spec.has_entry (drop l.entry-index l.entries) l.hart ≡ spec.has_entry l.entries l.hart
