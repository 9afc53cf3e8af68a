use Rattle.std.proofs.Common.{map, take, sym, ap, ◌∙◌}
use Rattle.image_record.specs.Parts.{domain_model}
use Rattle.image_record.specs.Cases.{first_in}
use Rattle.image_record.specs.Numbers.{natural_of}
use Rattle.image_record.proofs.Loops.{handed_on, no_memory, no_value, passed_of, found_of, ended_of, made_of, all_made_of}
use Rattle.schedule_check.specs.Interrupts.{k14, k14_domain, k14_line, own_lines}
use Rattle.schedule_check.proofs.interrupts.k14.Goals as goal

pub returns-in_err-k14_lines-clause-verdict : goal.returns-in_err-k14_lines-clause-verdict
unfolding k14
returns-in_err-k14_lines-clause-verdict c =
    let domains = c.as_slice-domains.result.now in
    let x = c.index-domains-d.result in
    let here = ap (first_in (k14_line (map domain_model (take c.loop-d.d domains)))) (sym c.as_slice.ensures.value) in
    let whole = ap (λ ds. first_in k14_domain (map domain_model ds)) (sym c.as_slice-domains.ensures.value) ∙ sym c.loop-d.invariant.0 in
    handed_on c.from_residual.result c.in_err-k14_lines.field-0.0 _ _ c.from_residual.ensures.1 c.in_err-k14_lines.ensures.verdict
    (λ r is. whole ∙ found_of k14_domain domain_model domains c.loop-d.d x x r c.loop-d-test.true c.index-domains-d.is (here ∙ is))

pub returns-in_err-k14_lines-clause-value : goal.returns-in_err-k14_lines-clause-value
returns-in_err-k14_lines-clause-value c = no_value c.from_residual.result _ c.from_residual.ensures.0

pub returns-in_err-push-clause-verdict : goal.returns-in_err-push-clause-verdict
returns-in_err-push-clause-verdict c = no_memory c.from_residual-in_err-push.result _ c.from_residual-in_err-push.ensures.1

pub returns-in_err-push-clause-value : goal.returns-in_err-push-clause-value
returns-in_err-push-clause-value c = no_value c.from_residual-in_err-push.result _ c.from_residual-in_err-push.ensures.0

pub loop-d-preserved : goal.loop-d-preserved
loop-d-preserved c =
    let domains = c.as_slice-domains.result.now in
    let x = c.index-domains-d.result in
    let here = ap (first_in (k14_line (map domain_model (take c.loop-d.d domains)))) (sym c.as_slice.ensures.value) in
    let lines = c.in_ok-k14_lines.ensures.value ∙ ap (map natural_of) c.as_slice.ensures.value in (
      passed_of k14_domain domain_model domains c.loop-d.d x x c.loop-d-test.true c.index-domains-d.is
          (here ∙ c.in_ok-k14_lines.ensures.verdict) ∙ c.loop-d.invariant.0,
      made_of (λ v. v.items) own_lines domain_model c.loop-d.lines.items c.push.new.self.items domains
          c.loop-d.d x x c.in_ok-k14_lines.field-0 c.loop-d-test.true c.index-domains-d.is
          c.in_ok-push.ensures.items lines ∙ c.loop-d.invariant.1,
    )

pub returns-clause-verdict : goal.returns-clause-verdict
unfolding k14
returns-clause-verdict c =
    let domains = c.as_slice-domains.result.now in
    ap (λ ds. first_in k14_domain (map domain_model ds)) (sym c.as_slice-domains.ensures.value)
    ∙ sym c.loop-d.invariant.0 ∙ ended_of k14_domain domain_model _ domains c.loop-d.d c.loop-d-test.false

pub returns-clause-value : goal.returns-clause-value
returns-clause-value c =
    let domains = c.as_slice-domains.result.now in
    let all =
    sym (all_made_of own_lines domain_model (map (λ v. v.items) c.loop-d.lines.items) domains
    c.loop-d.d c.loop-d-test.false) ∙ c.loop-d.invariant.1 in
    all ∙ ap (λ ds. map own_lines (map domain_model ds)) c.as_slice-domains.ensures.value
