use Rattle.std.proofs.Common.{◌≡◌, take, drop, map}
use Rattle.image_record.specs.Parts.{entry_model}
use Rattle.image_record.specs.Cases.{first_case, first_in}
use Rattle.schedule_check.specs.Schedule as spec
use Rattle.schedule_check.proofs.schedule.entry_cases.Given as goal

abbrev pub invariant-loop-place : goal.invariant-loop-place
invariant-loop-place l =
    first_case (spec.k16_entry l.domains) (map entry_model (take l.place l.texts)) (map entry_model (drop l.place l.texts))
    ≡ first_in (spec.k16_entry l.domains) (map entry_model l.texts)
