-- What a switch goes by.
use Rattle.std.specs.Prelude.{◌≡◌, ℕ, List}
use Rattle.sched_table.specs.declared.schedule.Entry.{Entry}
use Rattle.sched_table.specs.declared.schedule.Turn.{Turn}
use Rattle.sched_table.specs.Schedule.{entry_in, entry_of_slot, switch_entry, start, last_end}

-- by these entries of its hart
pub record IsTurn (es : List Entry) (k : ℕ) (t : Turn) : Type 0 where
  pub entry : t.entry ≡ entry_of_slot es k
  pub start : t.start ≡ start es k
  pub ended : t.ended ≡ entry_in es (switch_entry es k)
  pub last_end : t.last_end ≡ last_end es k
