use Rattle.std.proofs.Common.{◌≡◌, rules, to_z, of_z, w64, map, sym, ap, ◌∙◌}
use Rattle.image_record.specs.Numbers.{names}
use Rattle.image_record.proofs.Loops.{any_found, any_ended}
use Rattle.lend_check.specs.Lending.{said}
use Rattle.lend_check.specs.Models.{domain_model}
use Rattle.lend_check.specs.Rule.{is_lent}
use Rattle.lend_check.proofs.Walks.{any_from}
use Rattle.lend_check.proofs.rule.is_lent.Goals as goal

pub returns-then-names : goal.returns-then-names
returns-then-names c =
    let z = to_z w64 (of_z w64 c.args.colour) in
    let domains = c.args.domains.now in
    let same : z ≡ c.args.colour = search rules in
    let x = c.domain-item.result in
    let is = ap (λ xs. names xs z) (sym c.as_slice.ensures.value) ∙ sym c.names.ensures.value ∙ c.if-names.true in
    let here =
    any_found (λ o. names o.lend z) domain_model domains c.loop-domain.domain-index x x c.loop-domain-test.true c.domain-item.is is in
    record {
      value =
          sym here ∙ c.loop-domain.invariant ∙ sym (any_from 0 (map domain_model domains) z)
          ∙ ap (is_lent (said (map domain_model domains))) same;
    }

pub returns : goal.returns
returns c =
    let z = to_z w64 (of_z w64 c.args.colour) in
    let domains = c.args.domains.now in
    let same : z ≡ c.args.colour = search rules in
    let none = any_ended (λ o. names o.lend z) domain_model domains c.loop-domain.domain-index c.loop-domain-test.false in
    record {
      value =
          sym none ∙ c.loop-domain.invariant ∙ sym (any_from 0 (map domain_model domains) z)
          ∙ ap (is_lent (said (map domain_model domains))) same;
    }
