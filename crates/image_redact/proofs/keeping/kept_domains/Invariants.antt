use Rattle.std.proofs.Common.{◌≡◌, map}
use Rattle.image_record.specs.Parts.{mailbox_model}
use Rattle.image_redact.specs.Redacted.{leads}
use Rattle.image_redact.proofs.keeping.kept_domains.Given as goal

abbrev pub invariant-loop : goal.invariant-loop
invariant-loop l =
    l.kept.items ≡ leads (map mailbox_model l.raw.mail.items) l.domains l.d l.counter
