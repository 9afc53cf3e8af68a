use Rattle.std.proofs.Common.{◌≡◌, map}
use Rattle.std.specs.List.{range_with_len}
use Rattle.sched_table.specs.Schedule.{entries_on}
use Rattle.sched_table.proofs.hart_schedule.hart_schedules.Given as goal

abbrev pub invariant-loop-hart : goal.invariant-loop-hart
invariant-loop-hart l = l.schedules.items ≡ map (entries_on l.entries) (range_with_len 0 l.hart)
