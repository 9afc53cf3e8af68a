use Rattle.std.proofs.Common.{◌≡◌, drop, map}
use Rattle.std.specs.Prelude.{string_bytes}
use Rattle.std.specs.List.{list_any}
use Rattle.std.specs.Str.{bytes_eq}
use Rattle.domain_check.proofs.capabilities.again_case.Given as goal

abbrev pub invariant-loop-other : goal.invariant-loop-other
invariant-loop-other l =
    list_any (bytes_eq l.text) (map (λ s. string_bytes s) (drop l.other-index l.earlier))
    ≡ list_any (bytes_eq l.text) (map (λ s. string_bytes s) l.earlier)
