use Rattle.std.proofs.Common.{map, take, sym, ap, ◌∙◌}
use Rattle.frame_colours.specs.Colours.{whole_of}
use Rattle.image_record.specs.Cases.{first_case}
use Rattle.image_record.proofs.Loops.{refused}
use Rattle.lend_check.specs.Lending.{said, lent_by}
use Rattle.lend_check.specs.Models.{domain_model}
use Rattle.lend_check.specs.Rule.{k21_colour}
use Rattle.lend_check.proofs.Walks.{domain_passed, domain_found}
use Rattle.lend_check.proofs.rule.k21_colours.Goals as goal

pub returns-in_err-k21_domain : goal.returns-in_err-k21_domain
returns-in_err-k21_domain c =
    let domains = c.args.domains.now in
    let case = k21_colour (whole_of c.args.frames c.args.colours) (map domain_model domains) in
    let d = c.loop-d.d in
    let x = c.index-domains-d.result in
    let here =
    ap (λ own. first_case case (said (map domain_model (take d domains))) (lent_by d own)) (sym c.as_slice.ensures.value)
    ∙ c.in_err-k21_domain.ensures.verdict in
    let first = domain_found case domain_model domains d x x _ c.loop-d-test.true c.index-domains-d.is here in
    record { verdict = refused c.from_residual.result _ _ c.from_residual.ensures.1 (sym c.loop-d.invariant ∙ first) }

pub loop-d-preserved : goal.loop-d-preserved
loop-d-preserved c =
    let domains = c.args.domains.now in
    let case = k21_colour (whole_of c.args.frames c.args.colours) (map domain_model domains) in
    let d = c.loop-d.d in
    let x = c.index-domains-d.result in
    let here =
    ap (λ own. first_case case (said (map domain_model (take d domains))) (lent_by d own)) (sym c.as_slice.ensures.value)
    ∙ c.in_ok-k21_domain.ensures.verdict in
    domain_passed case domain_model domains d x x c.loop-d-test.true c.index-domains-d.is here ∙ c.loop-d.invariant
