use Rattle.std.proofs.Common.{◌≡◌, ◌||◌, map}
use Rattle.image_record.specs.Parts.{mailbox_model}
use Rattle.image_redact.specs.Redacted.{is_among, each_below, tells}
use Rattle.image_redact.proofs.keeping.with_senders.Given as goal

abbrev pub invariant-loop-e : goal.invariant-loop-e
invariant-loop-e l =
    l.more.items ≡ each_below l.e (λ e. is_among l.kept e || tells (map mailbox_model l.mail) l.kept e)
