use Rattle.std.proofs.Common.{map, sym, ap, ◌∙◌}
use Rattle.image_record.specs.Parts.{domain_model}
use Rattle.image_record.specs.Cases.{first_in}
use Rattle.domain_check.specs.Models.{named_model}
use Rattle.domain_check.specs.Capabilities.{k13, k13_domain, caps_of}
use Rattle.image_record.proofs.Loops.{handed_on, no_memory, no_value, passed_of, found_of, ended_of, made_of, all_made_of}
use Rattle.domain_check.proofs.capabilities.k13.Goals as goal

pub returns-in_err-k13_domain-clause-verdict : goal.returns-in_err-k13_domain-clause-verdict
unfolding k13
returns-in_err-k13_domain-clause-verdict c =
    let domains = c.as_slice-domains.result.now in
    let x = c.index-domains-d.result in
    let whole = ap (λ ds. first_in k13_domain (map domain_model ds)) (sym c.as_slice-domains.ensures.value) ∙ sym c.loop-d.invariant.0 in
    handed_on c.from_residual.result c.in_err-k13_domain.field-0.0 _ _ c.from_residual.ensures.1 c.in_err-k13_domain.ensures.verdict
    (λ r is. whole ∙ found_of k13_domain domain_model domains c.loop-d.d x x r c.loop-d-test.true c.index-domains-d.is is)

pub returns-in_err-k13_domain-clause-value : goal.returns-in_err-k13_domain-clause-value
returns-in_err-k13_domain-clause-value c = no_value c.from_residual.result _ c.from_residual.ensures.0

pub returns-in_err-push-clause-verdict : goal.returns-in_err-push-clause-verdict
returns-in_err-push-clause-verdict c = no_memory c.from_residual-in_err-push.result _ c.from_residual-in_err-push.ensures.1

pub returns-in_err-push-clause-value : goal.returns-in_err-push-clause-value
returns-in_err-push-clause-value c = no_value c.from_residual-in_err-push.result _ c.from_residual-in_err-push.ensures.0

pub loop-d-preserved : goal.loop-d-preserved
loop-d-preserved c =
    let domains = c.as_slice-domains.result.now in
    let x = c.index-domains-d.result in (
      passed_of k13_domain domain_model domains c.loop-d.d x x c.loop-d-test.true c.index-domains-d.is
          c.in_ok-k13_domain.ensures.verdict ∙ c.loop-d.invariant.0,
      made_of (λ v. map named_model v.items) caps_of domain_model c.loop-d.caps.items c.push.new.self.items
          domains c.loop-d.d x x c.in_ok-k13_domain.field-0 c.loop-d-test.true c.index-domains-d.is
          c.in_ok-push.ensures.items c.in_ok-k13_domain.ensures.value ∙ c.loop-d.invariant.1,
    )

pub returns-clause-verdict : goal.returns-clause-verdict
unfolding k13
returns-clause-verdict c =
    let domains = c.as_slice-domains.result.now in
    ap (λ ds. first_in k13_domain (map domain_model ds)) (sym c.as_slice-domains.ensures.value)
    ∙ sym c.loop-d.invariant.0 ∙ ended_of k13_domain domain_model _ domains c.loop-d.d c.loop-d-test.false

pub returns-clause-value : goal.returns-clause-value
returns-clause-value c =
    let domains = c.as_slice-domains.result.now in
    let all =
    sym (all_made_of caps_of domain_model (map (λ v. map named_model v.items) c.loop-d.caps.items)
    domains c.loop-d.d c.loop-d-test.false) ∙ c.loop-d.invariant.1 in
    all ∙ ap (λ ds. map caps_of (map domain_model ds)) c.as_slice-domains.ensures.value
