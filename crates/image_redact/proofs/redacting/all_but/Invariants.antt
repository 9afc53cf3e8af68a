use Rattle.std.proofs.Common.{map, string_bytes}
use Rattle.image_record.specs.Parts.{domain_model}
use Rattle.image_redact.proofs.Emptying.{AreDone}
use Rattle.image_redact.proofs.redacting.all_but.Given as goal

abbrev pub invariant-loop-n : goal.invariant-loop-n
invariant-loop-n l =
    AreDone l.version l.kept (map (λ s. string_bytes s) l.taken) l.n (map domain_model l.initial.domains.items)
    (map domain_model l.domains.items)
