use Rattle.std.proofs.Common.{map, string_bytes}
use Rattle.image_redact.proofs.Names.{AreTried}
use Rattle.image_redact.proofs.naming.name_beside.Given as goal

abbrev pub invariant-loop : goal.invariant-loop
invariant-loop l = AreTried (map (λ s. string_bytes s) l.taken) l.n l.counter l.number
