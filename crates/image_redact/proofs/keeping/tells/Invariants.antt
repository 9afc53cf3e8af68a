use Rattle.std.proofs.Common.{◌≡◌, map, drop}
use Rattle.image_record.specs.Parts.{mailbox_model}
use Rattle.image_redact.specs.Redacted.{tells}
use Rattle.image_redact.proofs.keeping.tells.Given as goal

abbrev pub invariant-loop-mailbox : goal.invariant-loop-mailbox
invariant-loop-mailbox l =
    tells (map mailbox_model (drop l.mailbox-index l.mail)) l.kept l.e ≡ tells (map mailbox_model l.mail) l.kept l.e
