use Rattle.std.proofs.Common.{◌≡◌, ◌<◌, ◌≤◌, ◌-◌, min, length, map, get_or, rules, arith}
use Rattle.image_check.specs.Models.{segment_model}
use Rattle.world_view.proofs.opening.Counts.{pages_most}
use Rattle.domain_open.proofs.Pages.{below_more, below_none}
use Rattle.domain_open.proofs.segments.pages_below.Goals as goal

pub overflow_add-pages : goal.overflow_add-pages
overflow_add-pages c =
    let segments = c.args.segments.now in
    let k = c.loop-segment.segment-index in
    let q = c.segment-item.result in
    let within : k < length segments = search rules in
    let is : q ≡ get_or segments k q = search rules in
    let below = below_more segments k c.args.page q within is in
    let most = pages_most (map segment_model segments) c.args.page in
    let here : c.min-pages.result ≡ min q.pages (c.args.page - q.page) = search rules in
    omega (arith, c.requires.few, c.loop-segment.invariant, below, most, here)

pub loop-segment-preserved : goal.loop-segment-preserved
loop-segment-preserved c =
    let segments = c.args.segments.now in
    let k = c.loop-segment.segment-index in
    let q = c.segment-item.result in
    let within : k < length segments = search rules in
    let is : q ≡ get_or segments k q = search rules in
    let below = below_more segments k c.args.page q within is in
    let here : c.min-pages.result ≡ min q.pages (c.args.page - q.page) = search rules in
    omega (arith, c.loop-segment.invariant, below, here)

pub returns : goal.returns
returns c =
    let segments = c.args.segments.now in
    let k = c.loop-segment.segment-index in
    let past : length segments ≤ k = search rules in
    let none = below_none segments k c.args.page past in
    record { value = omega (arith, c.loop-segment.invariant, none) }
