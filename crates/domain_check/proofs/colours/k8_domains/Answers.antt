use Rattle.std.proofs.Common.{map, sym, ap, ap₂, ◌∙◌}
use Rattle.image_record.specs.Parts.{domain_model}
use Rattle.image_record.specs.Cases.{first_in}
use Rattle.image_record.specs.Numbers.{natural_of}
use Rattle.domain_check.specs.Colours.{k8_colour, k8_domain, own_colours}
use Rattle.image_record.proofs.Loops.{handed_on, no_memory, no_value, passed_of, found_of, ended_of, count_of, made_of, all_made_of}
use Rattle.domain_check.proofs.colours.k8_domains.Goals as goal

pub returns-in_err-k8_colours-clause-verdict : goal.returns-in_err-k8_colours-clause-verdict
returns-in_err-k8_colours-clause-verdict c =
    let colours = c.args.colours in
    let domains = c.args.domains.now in
    let d = c.loop-d.d in
    let x = c.index-domains-d.result in
    let own =
    ap₂ (λ n ns. first_in (k8_colour colours n) ns)
    (count_of domain_model domains d c.loop-d-test.true) (sym c.as_slice.ensures.value) in
    handed_on c.from_residual.result c.in_err-k8_colours.field-0.0 _ _ c.from_residual.ensures.1 c.in_err-k8_colours.ensures.verdict
    (λ r is. sym c.loop-d.invariant.0
    ∙ found_of (k8_domain colours) domain_model domains d x x r c.loop-d-test.true c.index-domains-d.is
    (own ∙ is))

pub returns-in_err-k8_colours-clause-value : goal.returns-in_err-k8_colours-clause-value
returns-in_err-k8_colours-clause-value c = no_value c.from_residual.result _ c.from_residual.ensures.0

pub returns-in_err-push-clause-verdict : goal.returns-in_err-push-clause-verdict
returns-in_err-push-clause-verdict c = no_memory c.from_residual-in_err-push.result _ c.from_residual-in_err-push.ensures.1

pub returns-in_err-push-clause-value : goal.returns-in_err-push-clause-value
returns-in_err-push-clause-value c = no_value c.from_residual-in_err-push.result _ c.from_residual-in_err-push.ensures.0

pub loop-d-preserved : goal.loop-d-preserved
loop-d-preserved c =
    let colours = c.args.colours in
    let domains = c.args.domains.now in
    let d = c.loop-d.d in
    let x = c.index-domains-d.result in
    let own =
    ap₂ (λ n ns. first_in (k8_colour colours n) ns)
    (count_of domain_model domains d c.loop-d-test.true) (sym c.as_slice.ensures.value) in
    let value = c.in_ok-k8_colours.ensures.value ∙ ap (map natural_of) c.as_slice.ensures.value in (
      passed_of (k8_domain colours) domain_model domains d x x c.loop-d-test.true c.index-domains-d.is
          (own ∙ c.in_ok-k8_colours.ensures.verdict) ∙ c.loop-d.invariant.0,
      made_of (λ v. v.items) own_colours domain_model c.loop-d.found.items c.push.new.self.items domains d x x
          c.in_ok-k8_colours.field-0 c.loop-d-test.true c.index-domains-d.is
          c.in_ok-push.ensures.items value ∙ c.loop-d.invariant.1,
    )

pub returns-clause-verdict : goal.returns-clause-verdict
returns-clause-verdict c =
    sym c.loop-d.invariant.0 ∙ ended_of (k8_domain c.args.colours) domain_model _ c.args.domains.now c.loop-d.d c.loop-d-test.false

pub returns-clause-value : goal.returns-clause-value
returns-clause-value c =
    sym (all_made_of own_colours domain_model (map (λ v. v.items) c.loop-d.found.items) c.args.domains.now
    c.loop-d.d c.loop-d-test.false) ∙ c.loop-d.invariant.1
