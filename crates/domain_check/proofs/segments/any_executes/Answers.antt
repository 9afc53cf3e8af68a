use Rattle.std.proofs.Common.{sym, ◌∙◌}
use Rattle.image_record.specs.Parts.{segment_model}
use Rattle.domain_check.specs.Segments.{executes}
use Rattle.image_record.proofs.Loops.{any_more, any_found, any_ended}
use Rattle.domain_check.proofs.segments.any_executes.Goals as goal

pub returns-then-executes : goal.returns-then-executes
returns-then-executes c =
    let x = c.segment-item.result in
    let passes = sym c.executes.ensures.value ∙ c.if-executes.true in
    let any =
    any_found (executes c.args.page) segment_model c.args.segments.now c.loop-segment.segment-index x x
    c.loop-segment-test.true c.segment-item.is passes in
    record { value = sym any ∙ c.loop-segment.invariant }

pub loop-segment-preserved : goal.loop-segment-preserved
loop-segment-preserved c =
    let x = c.segment-item.result in
    let fails = sym c.executes.ensures.value ∙ c.if-executes.false in
    any_more (executes c.args.page) segment_model c.args.segments.now c.loop-segment.segment-index x x
    c.loop-segment-test.true c.segment-item.is fails
    ∙ c.loop-segment.invariant

pub returns : goal.returns
returns c = record {
  value =
      sym (any_ended (executes c.args.page) segment_model c.args.segments.now c.loop-segment.segment-index
      c.loop-segment-test.false) ∙ c.loop-segment.invariant;
}
