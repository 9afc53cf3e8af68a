use Rattle.std.proofs.Common.{◌≡◌, drop, map}
use Rattle.std.specs.List.{list_any}
use Rattle.image_record.specs.Numbers.{names}
use Rattle.lend_check.specs.Models.{domain_model}
use Rattle.lend_check.proofs.rule.is_lent.Given as goal

abbrev pub invariant-loop-domain : goal.invariant-loop-domain
invariant-loop-domain l =
    list_any (λ o. names o.lend l.colour) (map domain_model (drop l.domain-index l.domains))
    ≡ list_any (λ o. names o.lend l.colour) (map domain_model l.domains)
