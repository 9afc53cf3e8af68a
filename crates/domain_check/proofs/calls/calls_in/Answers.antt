use Rattle.std.proofs.Common.{sym, ap, map, ◌∙◌}
use Rattle.image_record.specs.Parts.{domain_model}
use Rattle.domain_check.specs.Calls.{own_calls}
use Rattle.image_record.proofs.Loops.{unmade, made_from, all_made_of}
use Rattle.domain_check.proofs.calls.calls_in.Goals as goal

pub returns-in_err-push : goal.returns-in_err-push
returns-in_err-push c = record { value = unmade _ c.from_residual.result _ c.from_residual.ensures.1 }

pub loop-domain-preserved : goal.loop-domain-preserved
loop-domain-preserved c =
    made_from own_calls domain_model c.loop-domain.found.items c.push.new.self.items
    c.as_slice-domains.result.now c.loop-domain.domain-index c.domain-item.result c.domain-item.result
    c.calls_of.result c.loop-domain-test.true c.domain-item.is c.in_ok-push.ensures.items c.calls_of.ensures.value
    ∙ c.loop-domain.invariant

pub returns : goal.returns
returns c =
    let domains = c.as_slice-domains.result.now in
    let all =
    sym (all_made_of own_calls domain_model c.loop-domain.found.items domains
    c.loop-domain.domain-index c.loop-domain-test.false) ∙ c.loop-domain.invariant in
    record { value = all ∙ ap (λ ds. map own_calls (map domain_model ds)) c.as_slice-domains.ensures.value }
