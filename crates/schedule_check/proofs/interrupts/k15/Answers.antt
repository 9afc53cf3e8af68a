use Rattle.std.proofs.Common.{map, sym, ap, subst, ◌∙◌}
use Rattle.std.specs.List.{All}
use Rattle.image_record.specs.Parts.{domain_model}
use Rattle.image_record.specs.Cases.{first_in}
use Rattle.image_record.proofs.Loops.{handed_on, no_memory, no_value, passed_of, found_of, ended_of, made_of, all_made_of}
use Rattle.schedule_check.specs.Interrupts.{AreSmall, k15, k15_domain, own_moments}
use Rattle.schedule_check.proofs.OwnInterrupts.{small_lines_in}
use Rattle.schedule_check.proofs.interrupts.k15.Goals as goal

pub k15_domain-requires-clause-lines : goal.k15_domain-requires-clause-lines
k15_domain-requires-clause-lines c =
    let same = sym c.as_slice-domains.ensures.value in
    let all = subst (All (λ o. AreSmall (domain_model o).lines)) same (small_lines_in c.args.raw.now c.requires.lines) in
    subst (λ o. AreSmall (domain_model o).lines) (sym c.index-domains-d.is) (all c.loop-d.d c.index-domains-d.result c.loop-d-test.true)

pub returns-in_err-k15_domain-clause-verdict : goal.returns-in_err-k15_domain-clause-verdict
unfolding k15
returns-in_err-k15_domain-clause-verdict c =
    let domains = c.as_slice-domains.result.now in
    let x = c.index-domains-d.result in
    let whole = ap (λ ds. first_in k15_domain (map domain_model ds)) (sym c.as_slice-domains.ensures.value) ∙ sym c.loop-d.invariant.0 in
    handed_on c.from_residual.result c.in_err-k15_domain.field-0.0 _ _ c.from_residual.ensures.1 c.in_err-k15_domain.ensures.verdict
    (λ r is. whole ∙ found_of k15_domain domain_model domains c.loop-d.d x x r c.loop-d-test.true c.index-domains-d.is is)

pub returns-in_err-k15_domain-clause-value : goal.returns-in_err-k15_domain-clause-value
returns-in_err-k15_domain-clause-value c = no_value c.from_residual.result _ c.from_residual.ensures.0

pub returns-in_err-push-clause-verdict : goal.returns-in_err-push-clause-verdict
returns-in_err-push-clause-verdict c = no_memory c.from_residual-in_err-push.result _ c.from_residual-in_err-push.ensures.1

pub returns-in_err-push-clause-value : goal.returns-in_err-push-clause-value
returns-in_err-push-clause-value c = no_value c.from_residual-in_err-push.result _ c.from_residual-in_err-push.ensures.0

pub loop-d-preserved : goal.loop-d-preserved
loop-d-preserved c =
    let domains = c.as_slice-domains.result.now in
    let x = c.index-domains-d.result in (
      passed_of k15_domain domain_model domains c.loop-d.d x x c.loop-d-test.true c.index-domains-d.is
          c.in_ok-k15_domain.ensures.verdict ∙ c.loop-d.invariant.0,
      made_of (λ v. v.items) own_moments domain_model c.loop-d.moments.items c.push.new.self.items domains
          c.loop-d.d x x c.in_ok-k15_domain.field-0 c.loop-d-test.true c.index-domains-d.is
          c.in_ok-push.ensures.items c.in_ok-k15_domain.ensures.value ∙ c.loop-d.invariant.1,
    )

pub returns-clause-verdict : goal.returns-clause-verdict
unfolding k15
returns-clause-verdict c =
    let domains = c.as_slice-domains.result.now in
    ap (λ ds. first_in k15_domain (map domain_model ds)) (sym c.as_slice-domains.ensures.value)
    ∙ sym c.loop-d.invariant.0 ∙ ended_of k15_domain domain_model _ domains c.loop-d.d c.loop-d-test.false

pub returns-clause-value : goal.returns-clause-value
returns-clause-value c =
    let domains = c.as_slice-domains.result.now in
    let all =
    sym (all_made_of own_moments domain_model (map (λ v. v.items) c.loop-d.moments.items) domains
    c.loop-d.d c.loop-d-test.false) ∙ c.loop-d.invariant.1 in
    all ∙ ap (λ ds. map own_moments (map domain_model ds)) c.as_slice-domains.ensures.value
