-- What the code keeps of a schedule.
use Rattle.std.specs.Prelude.{◌≡◌, ℕ, ◌<◌, List, length, slice_index_or}
use Rattle.sched_table.specs.declared.schedule.Entry.{Entry}
use Rattle.sched_table.specs.Schedule.{IsSchedule}
use Rattle.sched_table.specs.Laws.{cycles_before, round}

-- for each entry the cycles of those before it, and those of a round
pub record IsTable (es : List Entry) (before : List ℕ) (all : ℕ) : Type 0 where
  pub schedule : IsSchedule es
  pub long : length before ≡ length es
  pub each : (j : ℕ) → j < length es → slice_index_or before j 0 ≡ cycles_before es j
  pub all_is : all ≡ round es
