use Rattle.std.proofs.Common.{◌≡◌, ◌≤◌, ◌*◌, ℕ, ◌<◌, length, slice_index_or}
use Rattle.sched_table.specs.Laws.{cycles_before}
use Rattle.sched_table.proofs.schedule.Schedule.new.Given as goal

abbrev pub invariant-loop-entry : goal.invariant-loop-entry
invariant-loop-entry l = record {
  long : length l.before.items ≡ l.entry-index;
  room : length l.entries ≤ l.before.cap;
  each : (j : ℕ) → j < l.entry-index → slice_index_or l.before.items j 0 ≡ cycles_before l.entries j;
  sum : l.round ≡ cycles_before l.entries l.entry-index;
  few : l.round ≤ 2000000 * l.entry-index;
}
