use Rattle.std.proofs.Common.{map, take, sym, ap, ◌∙◌}
use Rattle.image_record.specs.Parts.{domain_model}
use Rattle.image_record.specs.Cases.{first_in}
use Rattle.domain_check.specs.Colours.{k9, k9_domain, k9_colour}
use Rattle.image_record.proofs.Loops.{refused, passed_of, found_of, ended_of}
use Rattle.domain_check.proofs.colours.k9.Goals as goal

pub returns-in_err-k9_colours : goal.returns-in_err-k9_colours
unfolding k9
returns-in_err-k9_colours c =
    let domains = c.as_slice-domains.result.now in
    let d = c.loop-d.d in
    let x = c.index-domains-d.result in
    let here =
    ap (first_in (k9_colour (map domain_model (take d domains)))) (sym c.as_slice.ensures.value)
    ∙ c.in_err-k9_colours.ensures.verdict in
    let first = found_of k9_domain domain_model domains d x x _ c.loop-d-test.true c.index-domains-d.is here in
    let whole = ap (λ ds. first_in k9_domain (map domain_model ds)) (sym c.as_slice-domains.ensures.value) ∙ sym c.loop-d.invariant in
    record { verdict = refused c.from_residual.result _ _ c.from_residual.ensures.1 (whole ∙ first) }

pub loop-d-preserved : goal.loop-d-preserved
loop-d-preserved c =
    let domains = c.as_slice-domains.result.now in
    let d = c.loop-d.d in
    let x = c.index-domains-d.result in
    let here =
    ap (first_in (k9_colour (map domain_model (take d domains)))) (sym c.as_slice.ensures.value)
    ∙ c.in_ok-k9_colours.ensures.verdict in
    passed_of k9_domain domain_model domains d x x c.loop-d-test.true c.index-domains-d.is here ∙ c.loop-d.invariant

pub returns : goal.returns
unfolding k9
returns c =
    let domains = c.as_slice-domains.result.now in
    let whole = ap (λ ds. first_in k9_domain (map domain_model ds)) (sym c.as_slice-domains.ensures.value) ∙ sym c.loop-d.invariant in
    record { verdict = whole ∙ ended_of k9_domain domain_model _ domains c.loop-d.d c.loop-d-test.false }
