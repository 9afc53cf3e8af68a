use Rattle.std.proofs.Common.{◌≡◌, ◌++◌, drop, map}
use Rattle.image_record.specs.Parts.{domain_model}
use Rattle.domain_check.specs.Calls.{own_calls}
use Rattle.domain_check.proofs.calls.calls_in.Given as goal

abbrev pub invariant-loop-domain : goal.invariant-loop-domain
invariant-loop-domain l =
    l.found.items ++ map own_calls (map domain_model (drop l.domain-index l.domains))
    ≡ map own_calls (map domain_model l.domains)
