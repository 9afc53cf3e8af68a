use Rattle.std.proofs.Common.{◌≤◌, length, map, take, sym, ap, ◌∙◌, arith}
use Rattle.std.specs.Prelude.{string_bytes}
use Rattle.std.proofs.lemmas.List.{length-map}
use Rattle.image_record.specs.Parts.{domain_model}
use Rattle.domain_check.specs.Models.{named_model}
use Rattle.domain_check.specs.Capabilities.{k13_case, cap_of}
use Rattle.image_record.proofs.Loops.{broken, no_memory, no_value, passed_of, found_of, ended_of, made_of, all_made_of}
use Rattle.domain_check.proofs.Slots.{few_slots}
use Rattle.domain_check.proofs.capabilities.k13_domain.Goals as goal

pub returns-in_err-named_in-clause-verdict : goal.returns-in_err-named_in-clause-verdict
returns-in_err-named_in-clause-verdict c =
    let o = domain_model c.args.domain.now in
    let earlier = c.args.earlier.now in
    let caps = c.as_slice-caps.result.now in
    let k = c.loop-slot.slot in
    let x = c.index-caps-slot.result in
    let case = k13_case o (length earlier) in
    let few : length (map (λ s. string_bytes s) caps) ≤ 64 =
    omega (arith, length-map caps (λ s. string_bytes s), c.if-caps-gt-MOST_SLOTS.false) in
    let whole =
    few_slots (map domain_model earlier) o (length earlier) (map (λ s. string_bytes s) caps)
    (length-map earlier domain_model)
    (ap (map (λ s. string_bytes s)) (sym c.as_slice-caps.ensures.value)) few in
    let here = ap (case (map (λ s. string_bytes s) (take k caps))) (sym c.as_str.ensures.value) ∙ c.in_err-named_in.ensures.verdict in
    broken c.from_residual.result _ _ c.from_residual.ensures.1
    (whole ∙ sym c.loop-slot.invariant.0 ∙ found_of case (λ s. string_bytes s) caps k x x _ c.loop-slot-test.true c.index-caps-slot.is here)

pub returns-in_err-named_in-clause-value : goal.returns-in_err-named_in-clause-value
returns-in_err-named_in-clause-value c = no_value c.from_residual.result _ c.from_residual.ensures.0

pub returns-in_err-push-clause-verdict : goal.returns-in_err-push-clause-verdict
returns-in_err-push-clause-verdict c = no_memory c.from_residual-in_err-push.result _ c.from_residual-in_err-push.ensures.1

pub returns-in_err-push-clause-value : goal.returns-in_err-push-clause-value
returns-in_err-push-clause-value c = no_value c.from_residual-in_err-push.result _ c.from_residual-in_err-push.ensures.0

pub loop-slot-preserved : goal.loop-slot-preserved
loop-slot-preserved c =
    let o = domain_model c.args.domain.now in
    let caps = c.as_slice-caps.result.now in
    let k = c.loop-slot.slot in
    let x = c.index-caps-slot.result in
    let case = k13_case o (length c.args.earlier.now) in
    let here = ap (case (map (λ s. string_bytes s) (take k caps))) (sym c.as_str.ensures.value) ∙ c.in_ok-named_in.ensures.verdict in
    let named = c.in_ok-named_in.ensures.value ∙ ap cap_of c.as_str.ensures.value in (
      passed_of case (λ s. string_bytes s) caps k x x c.loop-slot-test.true c.index-caps-slot.is here ∙ c.loop-slot.invariant.0,
      made_of named_model cap_of (λ s. string_bytes s) c.loop-slot.found.items c.push.new.self.items caps k x
          x c.in_ok-named_in.field-0 c.loop-slot-test.true c.index-caps-slot.is
          c.in_ok-push.ensures.items named ∙ c.loop-slot.invariant.1,
    )

pub returns-clause-verdict : goal.returns-clause-verdict
returns-clause-verdict c =
    let o = domain_model c.args.domain.now in
    let earlier = c.args.earlier.now in
    let caps = c.as_slice-caps.result.now in
    let few : length (map (λ s. string_bytes s) caps) ≤ 64 =
    omega (arith, length-map caps (λ s. string_bytes s), c.if-caps-gt-MOST_SLOTS.false) in
    let whole =
    few_slots (map domain_model earlier) o (length earlier) (map (λ s. string_bytes s) caps)
    (length-map earlier domain_model)
    (ap (map (λ s. string_bytes s)) (sym c.as_slice-caps.ensures.value)) few in
    whole ∙ sym c.loop-slot.invariant.0
    ∙ ended_of (k13_case o (length earlier)) (λ s. string_bytes s) _ caps c.loop-slot.slot
    c.loop-slot-test.false

pub returns-clause-value : goal.returns-clause-value
returns-clause-value c =
    let caps = c.as_slice-caps.result.now in
    sym (all_made_of cap_of (λ s. string_bytes s) (map named_model c.loop-slot.found.items) caps c.loop-slot.slot c.loop-slot-test.false)
    ∙ c.loop-slot.invariant.1 ∙ ap (λ ss. map cap_of (map (λ s. string_bytes s) ss)) c.as_slice-caps.ensures.value
