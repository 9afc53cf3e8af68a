use Rattle.std.proofs.Common.{◌≡◌, take, drop, map}
use Rattle.image_record.specs.Parts.{mailbox_model}
use Rattle.image_record.specs.Cases.{first_case, first_in}
use Rattle.schedule_check.specs.Mail as spec
use Rattle.schedule_check.proofs.mail.first_alike.Given as goal

abbrev pub invariant-loop-e : goal.invariant-loop-e
invariant-loop-e l =
    first_case (spec.if_alike (mailbox_model l.mailbox)) (map mailbox_model (take l.e l.earlier))
    (map mailbox_model (drop l.e l.earlier))
    ≡ first_in (spec.if_alike (mailbox_model l.mailbox)) (map mailbox_model l.earlier)
