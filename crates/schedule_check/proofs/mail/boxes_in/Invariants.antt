use Rattle.std.proofs.Common.{◌≡◌, ◌++◌, take, drop, map}
use Rattle.image_record.specs.Parts.{mailbox_model}
use Rattle.image_record.specs.Cases.{first_case, first_in}
use Rattle.schedule_check.specs.Mail as spec
use Rattle.schedule_check.proofs.mail.boxes_in.Given as goal

abbrev pub invariant-loop-place : goal.invariant-loop-place
invariant-loop-place l =
    (first_case (spec.k20_box l.domains) (map mailbox_model (take l.place l.mail))
    (map mailbox_model (drop l.place l.mail))
    ≡ first_in (spec.k20_box l.domains) (map mailbox_model l.mail))
    × (l.boxes.items ++ map spec.box_of (map mailbox_model (drop l.place l.mail))
    ≡ map spec.box_of (map mailbox_model l.mail))
