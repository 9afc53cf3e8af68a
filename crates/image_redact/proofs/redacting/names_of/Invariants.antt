use Rattle.std.proofs.Common.{◌≡◌, ◌++◌, map, drop, string_bytes}
use Rattle.image_record.specs.Parts.{domain_model}
use Rattle.image_redact.specs.Redacted.{names_from}
use Rattle.image_redact.proofs.redacting.names_of.Given as goal

abbrev pub invariant-loop-e : goal.invariant-loop-e
invariant-loop-e l =
    map (λ s. string_bytes s) l.names.items ++ names_from l.kept l.e (map domain_model (drop l.e l.domains))
    ≡ names_from l.kept 0 (map domain_model l.domains)
