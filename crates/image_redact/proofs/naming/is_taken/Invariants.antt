use Rattle.std.proofs.Common.{◌≡◌, map, drop, string_bytes}
use Rattle.image_redact.specs.Redacted.{is_taken}
use Rattle.image_redact.proofs.naming.is_taken.Given as goal

abbrev pub invariant-loop-other : goal.invariant-loop-other
invariant-loop-other l =
    is_taken (map (λ s. string_bytes s) (drop l.other-index l.taken)) l.name
    ≡ is_taken (map (λ s. string_bytes s) l.taken) l.name
