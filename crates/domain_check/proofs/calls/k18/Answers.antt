use Rattle.std.proofs.Common.{◌<◌, length, get_or, sym, ap, ap₂, subst, ◌∙◌}
use Rattle.image_record.specs.Parts.{domain_model}
use Rattle.image_record.specs.Cases.{first_in}
use Rattle.domain_check.specs.Calls.{k18, k18_call, k18_domain}
use Rattle.image_record.proofs.Loops.{refused, passed_of, found_of, count_of}
use Rattle.domain_check.proofs.calls.k18.Goals as goal

pub returns-in_err-k18_calls : goal.returns-in_err-k18_calls
unfolding k18
returns-in_err-k18_calls c =
    let domains = c.args.raw.now.domains.items in
    let all = c.deref-domain-items.ensures.value in
    let d = c.loop-d.d in
    let x = c.domain-item.result in
    let below = subst (λ os. d < length os) all c.loop-d-test.true in
    let is = c.domain-item.is ∙ ap (λ os. get_or os d x) all in
    let here =
    ap₂ (λ n calls. first_in (k18_call n) calls) (count_of domain_model domains d below) (sym c.listed.ensures.value)
    ∙ c.in_err-k18_calls.ensures.verdict in
    record {
      verdict =
          refused c.from_residual.result _ _ c.from_residual.ensures.1
          (sym c.loop-d.invariant ∙ found_of k18_domain domain_model domains d x x _ below is here);
    }

pub loop-d-preserved : goal.loop-d-preserved
loop-d-preserved c =
    let domains = c.args.raw.now.domains.items in
    let all = c.deref-domain-items.ensures.value in
    let d = c.loop-d.d in
    let x = c.domain-item.result in
    let below = subst (λ os. d < length os) all c.loop-d-test.true in
    let is = c.domain-item.is ∙ ap (λ os. get_or os d x) all in
    let here =
    ap₂ (λ n calls. first_in (k18_call n) calls) (count_of domain_model domains d below) (sym c.listed.ensures.value)
    ∙ c.in_ok-k18_calls.ensures.verdict in
    passed_of k18_domain domain_model domains d x x below is here ∙ c.loop-d.invariant
