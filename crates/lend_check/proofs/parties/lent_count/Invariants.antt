use Rattle.std.proofs.Common.{◌≡◌, ◌+◌, length, drop, map}
use Rattle.lend_check.specs.Lending.{lent_from, said}
use Rattle.lend_check.specs.Models.{domain_model}
use Rattle.lend_check.proofs.parties.lent_count.Given as goal

abbrev pub invariant-loop-domain : goal.invariant-loop-domain
invariant-loop-domain l =
    l.count + length (lent_from l.domain-index (map domain_model (drop l.domain-index l.domains)))
    ≡ length (said (map domain_model l.domains))
