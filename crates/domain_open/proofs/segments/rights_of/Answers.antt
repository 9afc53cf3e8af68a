use Rattle.std.proofs.Common.{◌≡◌, ◌<◌, ◌≤◌, true, false, length, get_or, sym, ◌∙◌, rules}
use Rattle.image_check.specs.Models.{segment_model}
use Rattle.image_check.specs.Pages.{has_page}
use Rattle.domain_open.proofs.Pages.{rights_here, rights_there, rights_nowhere}
use Rattle.domain_open.proofs.segments.rights_of.Goals as goal

pub returns-then-has_page : goal.returns-then-has_page
returns-then-has_page c =
    let segments = c.args.segments.now in
    let k = c.loop-segment.segment-index in
    let q = c.segment-item.result in
    let within : k < length segments = search rules in
    let is : q ≡ get_or segments k q = search rules in
    let here : has_page (segment_model q) c.args.page ≡ true = sym c.has_page.ensures.value ∙ c.if-has_page.true in
    record { value = sym (rights_here segments k c.args.page q within is here) ∙ c.loop-segment.invariant }

pub loop-segment-preserved : goal.loop-segment-preserved
loop-segment-preserved c =
    let segments = c.args.segments.now in
    let k = c.loop-segment.segment-index in
    let q = c.segment-item.result in
    let within : k < length segments = search rules in
    let is : q ≡ get_or segments k q = search rules in
    let there : has_page (segment_model q) c.args.page ≡ false = sym c.has_page.ensures.value ∙ c.if-has_page.false in
    sym (rights_there segments k c.args.page q within is there) ∙ c.loop-segment.invariant

pub returns : goal.returns
returns c =
    let segments = c.args.segments.now in
    let k = c.loop-segment.segment-index in
    let past : length segments ≤ k = search rules in
    record { value = sym (rights_nowhere segments k c.args.page past) ∙ c.loop-segment.invariant }
