use Rattle.std.proofs.Common.{◌≡◌, ℕ, ◌++◌, ◌∷◌, [], List, length, take, drop, refl, ap, ap₂, sym, subst, ◌∙◌, arith}
use Rattle.std.proofs.lemmas.List.{append_assoc, append-nil, length-drop}
use Rattle.frame_colours.specs.Colours.{Share}
use Rattle.cap_table.specs.Slots.{Slots}
use Rattle.image_check.specs.Models.{own_model}
use Rattle.image_check.specs.Pages.{pages_in}
use Rattle.domain_open.specs.Placing.{AreZeroed}
use Rattle.domain_open.specs.Giving.{slots_after, unnamed, IsGiving}
use Rattle.domain_open.proofs.SlotLaws.{slots_begin, unnamed_none, unnamed_more}
use Rattle.domain_open.proofs.Taking.{taken, none_zeroed, zeroed_then}
use Rattle.domain_open.proofs.giving.give_pages.Goals as goal

pub loop-place-init : goal.loop-place-init
loop-place-init c =
    let o = own_model c.args.own.now in
    let frames = c.args.pool.now.free in
    let kept = c.args.kept.now.items in
    record {
      caps = c.requires.lines ∙ sym (slots_begin o frames);
      kept = sym (ap (λ (ys : List ℕ). kept ++ ys) (unnamed_none (slots_after o frames (pages_in o.segments))) ∙ append-nil kept);
      long = omega arith;
      room = refl;
      free = refl;
      share = refl;
      zeroed = none_zeroed c.args.memory.now;
      size = refl;
    }

pub loop-place-preserved : goal.loop-place-preserved
loop-place-preserved c =
    let o = own_model c.args.own.now in
    let frames = c.args.pool.now.free in
    let kept = c.args.kept.now.items in
    let k = c.loop-place.place in
    let x = c.take_one-frame.result in
    let s = slots_after o frames (pages_in o.segments) in
    let inv = c.loop-place.invariant in
    let more = taken k frames x c.take_one-frame.new.pool.free (sym inv.free ∙ c.take_one-frame.ensures.frame) in
    let giving : IsGiving o frames k x c.loop-place.caps =
    record { ascend = c.requires.ascend; enough = c.requires.enough; at = more.at; given = inv.caps } in
    let few = c.place_page.ensures.few in
    let long = inv.long in
    record {
      caps = c.place_page.ensures.caps frames giving;
      kept = c.place_page.ensures.kept frames giving ∙ ap (λ (ys : List ℕ). ys ++ unnamed s (x ∷ [])) inv.kept
          ∙ append_assoc kept (unnamed s (take k frames)) (unnamed s (x ∷ []))
          ∙ ap (λ (ys : List ℕ). kept ++ ys) (sym (unnamed_more s (take k frames) (x ∷ [])) ∙ ap (unnamed s) (sym more.so_far));
      long = omega (arith, few, long);
      room = c.place_page.ensures.room ∙ inv.room;
      free = more.left;
      share = c.take_one-frame.ensures.share ∙ inv.share;
      zeroed = subst (λ (fs : List ℕ). AreZeroed fs c.args.memory.now c.take_one-frame.new.memory) (sym more.so_far)
          (zeroed_then (take k frames) (x ∷ []) c.args.memory.now c.loop-place.memory
          c.take_one-frame.new.memory inv.zeroed c.take_one-frame.ensures.zeroed);
      size = c.take_one-frame.ensures.size ∙ inv.size;
    }

pub place_page-requires : goal.place_page-requires
place_page-requires c =
    let o = own_model c.args.own.now in
    let frames = c.args.pool.now.free in
    let k = c.loop-place.place in
    let x = c.take_one-frame.result in
    let inv = c.loop-place.invariant in
    let many : c.pages_in-place-end.result ≡ pages_in o.segments = rw c.as_slice.ensures.value at c.pages_in-place-end.ensures.value in
    let more = taken k frames x c.take_one-frame.new.pool.free (sym inv.free ∙ c.take_one-frame.ensures.frame) in
    let giving : IsGiving o frames k x c.loop-place.caps =
    record { ascend = c.requires.ascend; enough = c.requires.enough; at = more.at; given = inv.caps } in
    let long = inv.long in
    let room = inv.room in
    record {
      sound = c.requires.sound;
      few = c.requires.few;
      there = omega (arith, many);
      giving = (frames, giving);
      room = omega (arith, many, long, room);
    }

pub returns : goal.returns
returns c =
    let o = own_model c.args.own.now in
    let frames = c.args.pool.now.free in
    let inv = c.loop-place.invariant in
    let many : c.pages_in-place-end.result ≡ pages_in o.segments = rw c.as_slice.ensures.value at c.pages_in-place-end.ensures.value in
    let all : c.loop-place.place ≡ pages_in o.segments = omega (arith, many) in
    let caps = inv.caps ∙ ap (slots_after o frames) all in
    record {
      caps = caps;
      kept = inv.kept ∙ ap₂ (λ (s : Slots) (n : ℕ). c.args.kept.now.items ++ unnamed s (take n frames)) (sym caps) all;
      free = inv.free ∙ ap (λ (n : ℕ). drop n frames) all;
      share = inv.share;
      zeroed = subst (λ (n : ℕ). AreZeroed (take n frames) c.args.memory.now c.loop-place.memory) all inv.zeroed;
      size = inv.size;
    }

pub take_one-frame-requires : goal.take_one-frame-requires
take_one-frame-requires c =
    let o = own_model c.args.own.now in
    let inv = c.loop-place.invariant in
    let many : c.pages_in-place-end.result ≡ pages_in o.segments = rw c.as_slice.ensures.value at c.pages_in-place-end.ensures.value in
    let left = ap (λ (fs : List ℕ). length fs) inv.free in
    record {
      some = omega (arith, many, left, length-drop c.loop-place.place c.args.pool.now.free, c.requires.enough, c.loop-place-test.true);
      size = omega (arith, ap (λ (s : Share). s.frames) inv.share, inv.size, c.requires.size);
    }

pub pages_in-place-end-requires : goal.pages_in-place-end-requires
pages_in-place-end-requires c = record {
  few = rw c.as_slice.ensures.value c.requires.few;
  sound = rw c.as_slice.ensures.value c.requires.sound.segments;
}

pub loop-place-smaller : goal.loop-place-smaller
loop-place-smaller c = omega (arith, c.loop-place-test.true)
