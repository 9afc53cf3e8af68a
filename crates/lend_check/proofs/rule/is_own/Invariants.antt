use Rattle.std.proofs.Common.{◌≡◌, drop, map}
use Rattle.lend_check.specs.Models.{domain_model}
use Rattle.lend_check.specs.Rule as spec
use Rattle.lend_check.proofs.rule.is_own.Given as goal

abbrev pub invariant-loop-domain : goal.invariant-loop-domain
invariant-loop-domain l =
    spec.is_own (map domain_model (drop l.domain-index l.domains)) l.colour ≡ spec.is_own (map domain_model l.domains) l.colour
