use Rattle.std.proofs.Common.{◌≡◌, drop}
use Rattle.std.specs.Prelude.{max}
use Rattle.sched_table.specs.Schedule.{harts_in}
use Rattle.sched_table.proofs.hart_schedule.harts_in.Given as goal

abbrev pub invariant-loop-entry : goal.invariant-loop-entry
invariant-loop-entry l = max l.harts (harts_in (drop l.entry-index l.entries)) ≡ harts_in l.entries
