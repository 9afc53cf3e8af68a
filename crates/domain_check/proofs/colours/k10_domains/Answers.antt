use Rattle.std.proofs.Common.{sym, ap, ◌∙◌}
use Rattle.frame_colours.specs.Colours.{whole_of}
use Rattle.image_record.specs.Parts.{domain_model}
use Rattle.domain_check.specs.Colours.{own_colours, k10_case, k10_domain}
use Rattle.image_record.proofs.Loops.{refused, passed_of, found_of, ended_of, count_of}
use Rattle.domain_check.proofs.Parts.{part_at}
use Rattle.domain_check.proofs.colours.k10_domains.Goals as goal

pub k10_case-requires-clause-own : goal.k10_case-requires-clause-own
k10_case-requires-clause-own c =
    c.as_slice.ensures.value
    ∙ part_at c.args.owns.now c.args.domains.now domain_model (λ v. v.items) own_colours c.requires.owns c.loop-d.d c.loop-d-test.true
    c.index-owns-d.result c.index-domains-d.result c.index-owns-d.is c.index-domains-d.is

pub returns-in_err-k10_case : goal.returns-in_err-k10_case
returns-in_err-k10_case c =
    let whole = whole_of c.args.frames c.args.colours in
    let domains = c.args.domains.now in
    let x = c.index-domains-d.result in
    let here =
    ap (λ n. k10_case whole n (domain_model x))
    (count_of domain_model domains c.loop-d.d c.loop-d-test.true)
    ∙ c.in_err-k10_case.ensures.verdict in
    let first = found_of (k10_domain whole) domain_model domains c.loop-d.d x x _ c.loop-d-test.true c.index-domains-d.is here in
    record { verdict = refused c.from_residual.result _ _ c.from_residual.ensures.1 (sym c.loop-d.invariant ∙ first) }

pub loop-d-preserved : goal.loop-d-preserved
loop-d-preserved c =
    let whole = whole_of c.args.frames c.args.colours in
    let domains = c.args.domains.now in
    let x = c.index-domains-d.result in
    let here =
    ap (λ n. k10_case whole n (domain_model x))
    (count_of domain_model domains c.loop-d.d c.loop-d-test.true)
    ∙ c.in_ok-k10_case.ensures.verdict in
    passed_of (k10_domain whole) domain_model domains c.loop-d.d x x c.loop-d-test.true c.index-domains-d.is here ∙ c.loop-d.invariant

pub returns : goal.returns
returns c =
    let whole = whole_of c.args.frames c.args.colours in
    record {
      verdict =
          sym c.loop-d.invariant
          ∙ ended_of (k10_domain whole) domain_model _ c.args.domains.now c.loop-d.d c.loop-d-test.false;
    }
