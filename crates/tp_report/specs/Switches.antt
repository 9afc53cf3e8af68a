-- The switch lines, over the lists that the code keeps.
use Rattle.std.specs.Prelude.{ℕ, List, ◌++◌, length, slice_index_or}
use Rattle.std.specs.List.{flat_map, range_with_len}
use Rattle.tp_report.specs.Report.{switch_line, end_text}
use Rattle.sched_table.specs.declared.schedule.Entry.{Entry}
use Rattle.sched_table.specs.Schedule.{entry_in}
use Rattle.world_view.specs.declared.used.Used.{Used}

abbrev pub no_used : Used
no_used = record { largest = 0; count = 0 }

-- what the switches of entry e took
abbrev pub used_in : List Used → ℕ → Used
used_in used e = slice_index_or used e no_used

unfoldable pub switch_at : List Entry → List Used → ℕ → List ℕ
switch_at entries used e = let u = used_in used e in switch_line e u.largest (entry_in entries e).pad u.count

-- a line for each entry
unfoldable pub switches_text : List Entry → List Used → List ℕ
switches_text entries used = flat_map (switch_at entries used) (range_with_len 0 (length entries))

-- what ends a report: the lines, and the last one
unfoldable pub ending_text : List Entry → List Used → List ℕ
ending_text entries used = switches_text entries used ++ end_text
