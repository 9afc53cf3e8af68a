use Rattle.std.proofs.Common.{sym, ◌∙◌}
use Rattle.image_record.specs.Parts.{domain_model}
use Rattle.domain_check.specs.Names.{k7_domain}
use Rattle.image_record.proofs.Loops.{refused, passed_of, found_of, ended_of}
use Rattle.domain_check.proofs.names.k7_domains.Goals as goal

pub returns-in_err-k7_domain : goal.returns-in_err-k7_domain
returns-in_err-k7_domain c =
    let x = c.index-domains-d.result in
    let first =
    found_of k7_domain domain_model c.args.domains.now c.loop-d.d x x _ c.loop-d-test.true
    c.index-domains-d.is c.in_err-k7_domain.ensures.verdict in
    record { verdict = refused c.from_residual.result _ _ c.from_residual.ensures.1 (sym c.loop-d.invariant ∙ first) }

pub loop-d-preserved : goal.loop-d-preserved
loop-d-preserved c =
    let x = c.index-domains-d.result in
    passed_of k7_domain domain_model c.args.domains.now c.loop-d.d x x c.loop-d-test.true c.index-domains-d.is
    c.in_ok-k7_domain.ensures.verdict ∙ c.loop-d.invariant

pub returns : goal.returns
returns c = record {
  verdict =
      sym c.loop-d.invariant
      ∙ ended_of k7_domain domain_model _ c.args.domains.now c.loop-d.d c.loop-d-test.false;
}
