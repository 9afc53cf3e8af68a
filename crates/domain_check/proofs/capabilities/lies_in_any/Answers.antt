use Rattle.std.proofs.Common.{sym, ◌∙◌}
use Rattle.image_record.specs.Parts.{segment_model}
use Rattle.domain_check.specs.Capabilities.{lies_in}
use Rattle.image_record.proofs.Loops.{any_more, any_found, any_ended}
use Rattle.domain_check.proofs.capabilities.lies_in_any.Goals as goal

pub returns-then-has_page : goal.returns-then-has_page
returns-then-has_page c =
    let x = c.segment-item.result in
    let passes = sym c.has_page.ensures.value ∙ c.if-has_page.true in
    let any =
    any_found (lies_in c.args.page) segment_model c.args.segments.now c.loop-segment.segment-index x x
    c.loop-segment-test.true c.segment-item.is passes in
    record { value = sym any ∙ c.loop-segment.invariant }

pub loop-segment-preserved : goal.loop-segment-preserved
loop-segment-preserved c =
    let x = c.segment-item.result in
    let fails = sym c.has_page.ensures.value ∙ c.if-has_page.false in
    any_more (lies_in c.args.page) segment_model c.args.segments.now c.loop-segment.segment-index x x
    c.loop-segment-test.true c.segment-item.is fails
    ∙ c.loop-segment.invariant

pub returns : goal.returns
returns c = record {
  value =
      sym (any_ended (lies_in c.args.page) segment_model c.args.segments.now c.loop-segment.segment-index
      c.loop-segment-test.false) ∙ c.loop-segment.invariant;
}
