use Rattle.std.proofs.Common.{◌<◌, ◌^◌, rules, length, map, refl, sym, ap, ◌∙◌}
use Rattle.image_record.specs.Parts.{moment_model}
use Rattle.image_record.proofs.Loops.{broken, no_memory, no_value, passed_of, found_of, ended_of, made_from, all_made_of}
use Rattle.schedule_check.specs.Interrupts.{k15_moment, moment_of}
use Rattle.schedule_check.proofs.MomentCases.{moments_left, many_case, of_lines}
use Rattle.schedule_check.proofs.interrupts.k15_domain.Goals as goal

pub returns-in_err-k15_moment-clause-verdict : goal.returns-in_err-k15_moment-clause-verdict
returns-in_err-k15_moment-clause-verdict c =
    let moments = c.as_slice-moments.result.now in
    let earlier = c.args.earlier.now in
    let lines = c.args.domain.now.lines.items in
    let whole =
    moments_left earlier c.args.domain.now moments c.as_slice-moments.ensures.value
    c.if-moments-gt-MOST_MOMENTS.false ∙ sym c.loop-place.invariant.0 in
    let here = of_lines _ _ _ _ _ _ c.as_slice.ensures.value c.in_err-k15_moment.ensures.verdict in
    broken c.from_residual.result _ _ c.from_residual.ensures.1
    (whole ∙ found_of (k15_moment lines (length earlier)) moment_model moments c.loop-place.place _ _ _ c.loop-place-test.true refl here)

pub returns-in_err-k15_moment-clause-value : goal.returns-in_err-k15_moment-clause-value
returns-in_err-k15_moment-clause-value c = no_value c.from_residual.result _ c.from_residual.ensures.0

pub returns-in_err-push-clause-verdict : goal.returns-in_err-push-clause-verdict
returns-in_err-push-clause-verdict c = no_memory c.from_residual-in_err-push.result _ c.from_residual-in_err-push.ensures.1

pub returns-in_err-push-clause-value : goal.returns-in_err-push-clause-value
returns-in_err-push-clause-value c = no_value c.from_residual-in_err-push.result _ c.from_residual-in_err-push.ensures.0

pub loop-place-preserved : goal.loop-place-preserved
loop-place-preserved c =
    let moments = c.as_slice-moments.result.now in
    let lines = c.args.domain.now.lines.items in
    let d = length c.args.earlier.now in
    let here = of_lines _ _ _ _ _ _ c.as_slice.ensures.value c.in_ok-k15_moment.ensures.verdict in (
      passed_of (k15_moment lines d) moment_model moments c.loop-place.place _ _ c.loop-place-test.true refl
          here ∙ c.loop-place.invariant.0,
      made_from moment_of moment_model c.loop-place.found.items c.push.new.self.items moments
          c.loop-place.place _ _ c.in_ok-k15_moment.field-0 c.loop-place-test.true refl
          c.in_ok-push.ensures.items c.in_ok-k15_moment.ensures.value ∙ c.loop-place.invariant.1,
    )

pub returns-clause-verdict : goal.returns-clause-verdict
returns-clause-verdict c =
    let moments = c.as_slice-moments.result.now in
    let earlier = c.args.earlier.now in
    moments_left earlier c.args.domain.now moments c.as_slice-moments.ensures.value
    c.if-moments-gt-MOST_MOMENTS.false ∙ sym c.loop-place.invariant.0
    ∙ ended_of (k15_moment c.args.domain.now.lines.items (length earlier)) moment_model _ moments c.loop-place.place c.loop-place-test.false

pub returns-clause-value : goal.returns-clause-value
returns-clause-value c =
    sym (all_made_of moment_of moment_model c.loop-place.found.items c.as_slice-moments.result.now
    c.loop-place.place c.loop-place-test.false)
    ∙ c.loop-place.invariant.1 ∙ ap (λ ms. map moment_of (map moment_model ms)) c.as_slice-moments.ensures.value

pub returns-then-moments-gt-MOST_MOMENTS-clause-verdict : goal.returns-then-moments-gt-MOST_MOMENTS-clause-verdict
returns-then-moments-gt-MOST_MOMENTS-clause-verdict c =
    let moments = c.as_slice-moments.result.now in
    let small : length moments < 2 ^ 63 = search rules in
    many_case c.args.earlier.now c.args.domain.now moments c.refusal.result c.as_slice-moments.ensures.value
    c.if-moments-gt-MOST_MOMENTS.true c.requires.domain small c.refusal.ensures.value
