use Rattle.std.proofs.Common.{sym, ◌∙◌}
use Rattle.image_record.specs.Parts.{segment_model}
use Rattle.domain_check.specs.Segments.{share_page}
use Rattle.image_record.proofs.Loops.{any_more, any_found, any_ended}
use Rattle.domain_check.proofs.segments.shares_any.Goals as goal

pub returns-then-share_page : goal.returns-then-share_page
returns-then-share_page c =
    let x = c.other-item.result in
    let passes = sym c.share_page.ensures.value ∙ c.if-share_page.true in
    let any =
    any_found (share_page (segment_model c.args.segment.now)) segment_model c.args.earlier.now
    c.loop-other.other-index x x c.loop-other-test.true c.other-item.is passes in
    record { value = sym any ∙ c.loop-other.invariant }

pub loop-other-preserved : goal.loop-other-preserved
loop-other-preserved c =
    let x = c.other-item.result in
    let fails = sym c.share_page.ensures.value ∙ c.if-share_page.false in
    any_more (share_page (segment_model c.args.segment.now)) segment_model c.args.earlier.now
    c.loop-other.other-index x x c.loop-other-test.true c.other-item.is fails
    ∙ c.loop-other.invariant

pub returns : goal.returns
returns c = record {
  value =
      sym (any_ended (share_page (segment_model c.args.segment.now)) segment_model c.args.earlier.now
      c.loop-other.other-index c.loop-other-test.false) ∙ c.loop-other.invariant;
}
