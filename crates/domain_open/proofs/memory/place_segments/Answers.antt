use Rattle.std.proofs.Common.{◌≡◌, ◌+◌, ◌<◌, ◌≤◌, length, map, drop, get_or, refl, ap, ◌∙◌, rules}
use Rattle.phys_mem.specs.Mem.{Mem}
use Rattle.hardware_check.specs.Models.{hardware_model}
use Rattle.image_check.specs.Models.{segment_model, own_model}
use Rattle.world_view.specs.Opening.{pages_placed, segments_placed}
use Rattle.domain_open.proofs.Pages.{more, none, has_pages, segment_few}
use Rattle.domain_open.proofs.Loading.{begun, finished, went_on, no_segment, one_segment}
use Rattle.domain_open.proofs.memory.place_segments.Goals as goal

pub loop-segment-init : goal.loop-segment-init
loop-segment-init c =
    let p = hardware_model c.args.at.now.hardware.now in
    let o = own_model c.args.at.now.own.now in
    record { placed = λ m h. begun c.args.memory.now m (segments_placed p o o.segments) h; frames = refl }

pub place_segment-requires-clause-size : goal.place_segment-requires-clause-size
place_segment-requires-clause-size c = c.loop-segment.invariant.frames ∙ c.requires.size

pub place_segment-requires-clause-few : goal.place_segment-requires-clause-few
place_segment-requires-clause-few c =
    let segments = c.args.at.now.own.now.segments.items in
    let k = c.loop-segment.segment-index in
    let q = c.segment-item.result in
    let within : k < length segments = search rules in
    let is : q ≡ get_or segments k q = search rules in
    segment_few c.args.at.now.own.now k q c.args.at.now.has_pool.sound within is

pub place_segment-requires-clause-pages : goal.place_segment-requires-clause-pages
place_segment-requires-clause-pages c =
    let segments = c.args.at.now.own.now.segments.items in
    let k = c.loop-segment.segment-index in
    let q = c.segment-item.result in
    let within : k < length segments = search rules in
    let is : q ≡ get_or segments k q = search rules in
    has_pages c.args.at.now.own.now k q within is

pub loop-segment-preserved : goal.loop-segment-preserved
loop-segment-preserved c =
    let p = hardware_model c.args.at.now.hardware.now in
    let o = own_model c.args.at.now.own.now in
    let segments = c.args.at.now.own.now.segments.items in
    let k = c.loop-segment.segment-index in
    let q = c.segment-item.result in
    let within : k < length segments = search rules in
    let is : q ≡ get_or segments k q = search rules in
    let rest = map segment_model (drop (k + 1) segments) in
    let step : (m : Mem)
    → segments_placed p o (map segment_model (drop k segments)) m
    ≡ segments_placed p o rest (pages_placed p o q.page q.pages q.bytes.items m) =
    λ m. ap (λ ss. segments_placed p o ss m) (more segments k q within is) ∙ one_segment p o (segment_model q) rest m in
    record {
      placed =
          λ m h. went_on c.loop-segment.memory c.place_segment.new.memory
          (segments_placed p o (map segment_model (drop k segments))) (segments_placed p o rest)
          (pages_placed p o q.page q.pages q.bytes.items) (segments_placed p o o.segments m)
          step c.place_segment.ensures.placed (c.loop-segment.invariant.placed m h);
      frames = c.place_segment.ensures.frames ∙ c.loop-segment.invariant.frames;
    }

pub returns-clause-placed : goal.returns-clause-placed
returns-clause-placed c m h =
    let p = hardware_model c.args.at.now.hardware.now in
    let o = own_model c.args.at.now.own.now in
    let segments = c.args.at.now.own.now.segments.items in
    let k = c.loop-segment.segment-index in
    let past : length segments ≤ k = search rules in
    finished c.loop-segment.memory (segments_placed p o (map segment_model (drop k segments))) (segments_placed p o o.segments m)
    (λ x. ap (λ ss. segments_placed p o ss x) (none segments k past) ∙ no_segment p o x) (c.loop-segment.invariant.placed m h)
