use Rattle.std.proofs.Common.{◌≡◌, map, take, drop, ◌++◌}
use Rattle.mail_slots.specs.Boxes.{box_ends}
use Rattle.mail_slots.specs.Models.{box_model}
use Rattle.mail_slots.proofs.mail.end_each.Given as goal

abbrev pub invariant-loop-slot : goal.invariant-loop-slot
invariant-loop-slot l =
    map box_model l.slots
    ≡ map (box_ends l.d) (take l.slot-index (map box_model l.initial.slots))
    ++ drop l.slot-index (map box_model l.initial.slots)
