use Rattle.std.proofs.Common.{◌≡◌, rules, pos, get_or, to_z, of_z, w64, map, sym, ◌∙◌}
use Rattle.image_record.specs.Parts.{domain_model}
use Rattle.image_record.specs.Numbers.{natural_of}
use Rattle.schedule_check.specs.Interrupts.{k14_line}
use Rattle.image_record.proofs.Loops.{broken, no_memory, no_value, passed, found, ended, made, all_made}
use Rattle.schedule_check.proofs.interrupts.k14_lines.Goals as goal

pub returns-in_err-k14_line-clause-verdict : goal.returns-in_err-k14_line-clause-verdict
returns-in_err-k14_line-clause-verdict c =
    let lines = c.args.lines.now in
    let k = c.loop-place.place in
    let same : to_z w64 (of_z w64 (get_or lines k (pos 0))) ≡ get_or lines k (pos 0) = search rules in
    let first =
    found (k14_line (map domain_model c.args.domains.now)) lines k _ (pos 0) _ c.loop-place-test.true
    same c.in_err-k14_line.ensures.verdict in
    broken c.from_residual.result _ _ c.from_residual.ensures.1 (sym c.loop-place.invariant.0 ∙ first)

pub returns-in_err-k14_line-clause-value : goal.returns-in_err-k14_line-clause-value
returns-in_err-k14_line-clause-value c = no_value c.from_residual.result _ c.from_residual.ensures.0

pub returns-in_err-push-clause-verdict : goal.returns-in_err-push-clause-verdict
returns-in_err-push-clause-verdict c = no_memory c.from_residual-in_err-push.result _ c.from_residual-in_err-push.ensures.1

pub returns-in_err-push-clause-value : goal.returns-in_err-push-clause-value
returns-in_err-push-clause-value c = no_value c.from_residual-in_err-push.result _ c.from_residual-in_err-push.ensures.0

pub loop-place-preserved : goal.loop-place-preserved
loop-place-preserved c =
    let lines = c.args.lines.now in
    let k = c.loop-place.place in
    let same : to_z w64 (of_z w64 (get_or lines k (pos 0))) ≡ get_or lines k (pos 0) = search rules in (
      passed (k14_line (map domain_model c.args.domains.now)) lines k _ (pos 0) c.loop-place-test.true same
          c.in_ok-k14_line.ensures.verdict ∙ c.loop-place.invariant.0,
      made natural_of c.loop-place.found.items c.push.new.self.items lines k _ (pos 0) c.in_ok-k14_line.field-0 c.loop-place-test.true same
          c.in_ok-push.ensures.items c.in_ok-k14_line.ensures.value ∙ c.loop-place.invariant.1,
    )

pub returns-clause-verdict : goal.returns-clause-verdict
returns-clause-verdict c =
    sym c.loop-place.invariant.0
    ∙ ended (k14_line (map domain_model c.args.domains.now)) _ c.args.lines.now c.loop-place.place
    c.loop-place-test.false

pub returns-clause-value : goal.returns-clause-value
returns-clause-value c =
    sym (all_made natural_of c.loop-place.found.items c.args.lines.now c.loop-place.place
    c.loop-place-test.false) ∙ c.loop-place.invariant.1
