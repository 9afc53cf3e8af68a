use Rattle.std.proofs.Common.{map, sym, ◌∙◌}
use Rattle.image_record.specs.Parts.{segment_model}
use Rattle.domain_check.specs.Models.{segment_model as part_model}
use Rattle.domain_check.specs.Segments.{segment_case, segment_of}
use Rattle.image_record.proofs.Loops.{handed_on, no_memory, no_value, passed_of, found_of, ended_of, made_of, all_made_of}
use Rattle.domain_check.proofs.segments.segments_in.Goals as goal

pub returns-in_err-segment_in-clause-verdict : goal.returns-in_err-segment_in-clause-verdict
returns-in_err-segment_in-clause-verdict c =
    let texts = c.args.texts.now in
    let x = c.index-texts-place.result in
    handed_on c.from_residual.result c.in_err-segment_in.field-0.0 _ _ c.from_residual.ensures.1 c.in_err-segment_in.ensures.verdict
    (λ r is. sym c.loop-place.invariant.0
    ∙ found_of (segment_case c.args.d) segment_model texts c.loop-place.place x x r c.loop-place-test.true
    c.index-texts-place.is is)

pub returns-in_err-segment_in-clause-value : goal.returns-in_err-segment_in-clause-value
returns-in_err-segment_in-clause-value c = no_value c.from_residual.result _ c.from_residual.ensures.0

pub returns-in_err-push-clause-verdict : goal.returns-in_err-push-clause-verdict
returns-in_err-push-clause-verdict c = no_memory c.from_residual-in_err-push.result _ c.from_residual-in_err-push.ensures.1

pub returns-in_err-push-clause-value : goal.returns-in_err-push-clause-value
returns-in_err-push-clause-value c = no_value c.from_residual-in_err-push.result _ c.from_residual-in_err-push.ensures.0

pub loop-place-preserved : goal.loop-place-preserved
loop-place-preserved c =
    let texts = c.args.texts.now in
    let x = c.index-texts-place.result in (
      passed_of (segment_case c.args.d) segment_model texts c.loop-place.place x x c.loop-place-test.true
          c.index-texts-place.is c.in_ok-segment_in.ensures.verdict ∙ c.loop-place.invariant.0,
      made_of part_model segment_of segment_model c.loop-place.segments.items c.push.new.self.items texts
          c.loop-place.place x x c.in_ok-segment_in.field-0 c.loop-place-test.true
          c.index-texts-place.is c.in_ok-push.ensures.items c.in_ok-segment_in.ensures.value ∙ c.loop-place.invariant.1,
    )

pub returns-clause-verdict : goal.returns-clause-verdict
returns-clause-verdict c =
    sym c.loop-place.invariant.0
    ∙ ended_of (segment_case c.args.d) segment_model _ c.args.texts.now c.loop-place.place
    c.loop-place-test.false

pub returns-clause-value : goal.returns-clause-value
returns-clause-value c =
    sym (all_made_of segment_of segment_model (map part_model c.loop-place.segments.items) c.args.texts.now
    c.loop-place.place c.loop-place-test.false) ∙ c.loop-place.invariant.1
