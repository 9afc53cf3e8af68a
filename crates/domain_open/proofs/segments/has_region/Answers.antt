use Rattle.std.proofs.Common.{◌≡◌, ◌<◌, ◌≤◌, true, false, length, get_or, sym, ◌∙◌, rules}
use Rattle.image_check.specs.Models.{segment_model}
use Rattle.image_check.specs.Pages.{meets}
use Rattle.domain_open.proofs.Pages.{region_here, region_there, region_nowhere}
use Rattle.domain_open.proofs.segments.has_region.Goals as goal

pub returns-then-meets : goal.returns-then-meets
returns-then-meets c =
    let segments = c.args.segments.now in
    let k = c.loop-segment.segment-index in
    let q = c.segment-item.result in
    let within : k < length segments = search rules in
    let is : q ≡ get_or segments k q = search rules in
    let here : meets (segment_model q) c.args.region ≡ true = sym c.meets.ensures.value ∙ c.if-meets.true in
    record { value = sym (region_here segments k c.args.region q within is here) ∙ c.loop-segment.invariant }

pub loop-segment-preserved : goal.loop-segment-preserved
loop-segment-preserved c =
    let segments = c.args.segments.now in
    let k = c.loop-segment.segment-index in
    let q = c.segment-item.result in
    let within : k < length segments = search rules in
    let is : q ≡ get_or segments k q = search rules in
    let there : meets (segment_model q) c.args.region ≡ false = sym c.meets.ensures.value ∙ c.if-meets.false in
    sym (region_there segments k c.args.region q within is there) ∙ c.loop-segment.invariant

pub returns : goal.returns
returns c =
    let segments = c.args.segments.now in
    let k = c.loop-segment.segment-index in
    let past : length segments ≤ k = search rules in
    record { value = sym (region_nowhere segments k c.args.region past) ∙ c.loop-segment.invariant }
