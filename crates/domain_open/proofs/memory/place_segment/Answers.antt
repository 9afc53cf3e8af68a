use Rattle.std.proofs.Common.{◌≡◌, ◌+◌, ◌-◌, ◌<◌, ℕ, length, min, take, drop, suc, ap, subst, ◌∙◌, rules, arith}
use Rattle.tp_base.specs.Table.{put}
use Rattle.phys_mem.specs.Holds.{Holds}
use Rattle.phys_mem.specs.Mem.{Mem}
use Rattle.hardware_check.specs.Models.{hardware_model}
use Rattle.image_check.specs.Models.{own_model}
use Rattle.world_view.specs.Frames.{page_frame}
use Rattle.world_view.specs.Opening.{page_words, pages_placed}
use Rattle.world_view.proofs.steps.CodeLaws.{at-page_words}
use Rattle.domain_open.proofs.Loading.{take_front, drop_front, finished, went_on, no_page, one_page}
use Rattle.domain_open.proofs.memory.place_segment.Goals as goal

pub page_frame-requires : goal.page_frame-requires
page_frame-requires c =
    let s = c.args.segment.now in
    let k = c.loop-i.i in
    let below : k < s.pages = search rules in
    record { there = c.requires.pages.each (s.page + k) (omega arith) (omega (arith, below)) }

pub place_frame-requires : goal.place_frame-requires
place_frame-requires c = record { frame = omega (arith, c.page_frame.ensures.within, c.requires.size, c.loop-i.invariant.frames) }

pub loop-i-preserved : goal.loop-i-preserved
loop-i-preserved c =
    let p = hardware_model c.args.at.now.hardware.now in
    let o = own_model c.args.at.now.own.now in
    let s = c.args.segment.now in
    let k = c.loop-i.i in
    let n = s.page + k in
    let rest = c.loop-i.rest.now in
    let bytes = c.split_at.result.0.now in
    let size : c.min.result ≡ min (length rest) 4096 = search rules in
    let front : bytes ≡ take 4096 rest = c.split_at.ensures.front ∙ ap (λ i. take i rest) size ∙ take_front 4096 rest in
    let back : c.split_at.result.1.now ≡ drop 4096 rest = c.split_at.ensures.back ∙ ap (λ i. drop i rest) size ∙ drop_front 4096 rest in
    let next : s.page + (k + 1) ≡ n + 1 = omega arith in
    let some : s.pages - k ≡ suc (s.pages - (k + 1)) = omega arith in
    let more : (m : Mem)
    → pages_placed p o n (s.pages - k) rest m
    ≡ pages_placed p o (s.page + (k + 1)) (s.pages - (k + 1)) c.split_at.result.1.now
    (put m (page_frame p o n) (page_words bytes)) =
    λ m. rw (front, back, next) (one_page p o n (s.pages - k) (s.pages - (k + 1)) rest some m) in
    let moved : (m : Mem) → Holds c.loop-i.memory m → Holds c.place_frame.new.memory (put m (page_frame p o n) (page_words bytes)) =
    λ m h. subst (λ (f : ℕ). Holds c.place_frame.new.memory (put m f (page_words bytes)))
    c.page_frame.ensures.value
    (c.place_frame.ensures.placed m (page_words bytes) h (λ i below. at-page_words bytes i)) in
    record {
      placed =
          λ m h. went_on c.loop-i.memory c.place_frame.new.memory (pages_placed p o n (s.pages - k) rest)
          (pages_placed p o (s.page + (k + 1)) (s.pages - (k + 1)) c.split_at.result.1.now)
          (λ x. put x (page_frame p o n) (page_words bytes))
          (pages_placed p o s.page s.pages s.bytes.items m) more moved (c.loop-i.invariant.placed m h);
      frames = c.place_frame.ensures.frames ∙ c.loop-i.invariant.frames;
    }

pub returns-clause-placed : goal.returns-clause-placed
returns-clause-placed c m h =
    let p = hardware_model c.args.at.now.hardware.now in
    let o = own_model c.args.at.now.own.now in
    let s = c.args.segment.now in
    let n = s.page + c.loop-i.i in
    let left = s.pages - c.loop-i.i in
    let end : left ≡ 0 = omega arith in
    finished c.loop-i.memory (pages_placed p o n left c.loop-i.rest.now)
    (pages_placed p o s.page s.pages s.bytes.items m) (no_page p o n left c.loop-i.rest.now end)
    (c.loop-i.invariant.placed m h)
