use Rattle.std.proofs.Common.{◌≡◌, nat_eq}
use Rattle.image_redact.specs.Redacted.{each_below}
use Rattle.image_redact.proofs.keeping.itself.Given as goal

abbrev pub invariant-loop-e : goal.invariant-loop-e
invariant-loop-e l = l.kept.items ≡ each_below l.e (λ e. nat_eq e l.d)
