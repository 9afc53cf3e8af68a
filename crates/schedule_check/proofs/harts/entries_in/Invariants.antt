use Rattle.std.proofs.Common.{◌≡◌, ◌++◌, drop, map}
use Rattle.image_record.specs.Parts.{entry_model}
use Rattle.schedule_check.specs.Schedule.{entry_of}
use Rattle.schedule_check.proofs.harts.entries_in.Given as goal

abbrev pub invariant-loop-text : goal.invariant-loop-text
invariant-loop-text l =
    l.entries.items ++ map entry_of (map entry_model (drop l.text-index l.texts)) ≡ map entry_of (map entry_model l.texts)
