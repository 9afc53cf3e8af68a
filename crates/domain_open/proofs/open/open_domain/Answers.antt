use Rattle.std.proofs.Common.{◌≡◌, ℕ, ◌+◌, ◌++◌, List, length, take, drop, ap, ap₂, refl, sym, subst, subst₂, ◌∙◌, arith}
use Rattle.std.specs.List.Sorted.{IsStrictlyIncreasing}
use Rattle.std.proofs.lemmas.List.{length-take, length-drop}
use Rattle.frame_colours.specs.Colours as colours
use Rattle.frame_colours.specs.Colours.{Share, frame_at}
use Rattle.frame_colours.specs.FreeList.{FreeList}
use Rattle.hardware_check.specs.Models.{hardware_model}
use Rattle.image_check.specs.Models.{own_model}
use Rattle.image_check.specs.Pages.{regions_in, pages_in, frames_in}
use Rattle.thread_set.specs.Models.{threads_model}
use Rattle.kernel_clone.specs.Models.{layout_model}
use Rattle.kernel_call.specs.declared.domain.Domain.{Domain}
use Rattle.kernel_call.specs.Models.{IsNew}
use Rattle.world_view.specs.Frames.{pool, clone_frames}
use Rattle.world_view.proofs.opening.Parts.{drop_twice}
use Rattle.domain_open.specs.Giving.{slots_after, unnamed}
use Rattle.domain_open.specs.Placing.{AreZeroed, used_frames, IsOpened}
use Rattle.domain_open.proofs.PoolReads.{frames_few}
use Rattle.domain_open.proofs.Errors.{no_value}
use Rattle.domain_open.proofs.Taking.{taken, used_zeroed, still_elsewhere, still_blank}
use Rattle.domain_open.proofs.Opened.{increasing_drop, pool_ascends, slots_are, is_opened, at_ok, if_ok}
use Rattle.domain_open.proofs.open.open_domain.Goals as goal

pub pages_in-pages-requires-clause-few : goal.pages_in-pages-requires-clause-few
pages_in-pages-requires-clause-few c =
    let few = frames_few (hardware_model c.args.hardware.now) (own_model c.args.own.now) c.requires.has_pool in
    rw c.as_slice-segments.ensures.value (omega (arith, few))

pub overflow_add-frames : goal.overflow_add-frames
overflow_add-frames c =
    let few = frames_few (hardware_model c.args.hardware.now) (own_model c.args.own.now) c.requires.has_pool in
    let pages = rw c.as_slice-segments.ensures.value at c.pages_in-pages.ensures.value in
    omega (arith, few, pages)

pub layout_of-layout-requires : goal.layout_of-layout-requires
layout_of-layout-requires c =
    let p = hardware_model c.args.hardware.now in
    let o = own_model c.args.own.now in
    let all : List ℕ = pool p o in
    let free : c.in-Ok.pool.free ≡ all =
    ap (λ (f : FreeList). f.free) c.in-Ok.ensures.free
    ∙ ap (λ (s : Share). colours.pool s) c.requires.share in
    let clone : c.as_slice.result.now ≡ take 4 all =
    c.as_slice.ensures.value ∙ c.take_into.ensures.frames
    ∙ ap₂ (λ (ys zs : List ℕ). ys ++ zs) c.in_ok-kept.ensures.kept (ap (take 4) free) in
    let enough = c.requires.has_pool.enough in
    let long = length-take 4 all in
    record { four = ap (λ (ys : List ℕ). length ys) clone ∙ omega (arith, long, enough) }

pub take_one-root-requires-clause-some : goal.take_one-root-requires-clause-some
take_one-root-requires-clause-some c =
    let p = hardware_model c.args.hardware.now in
    let o = own_model c.args.own.now in
    let all : List ℕ = pool p o in
    let free : c.in-Ok.pool.free ≡ all =
    ap (λ (f : FreeList). f.free) c.in-Ok.ensures.free
    ∙ ap (λ (s : Share). colours.pool s) c.requires.share in
    let left : length c.take_into.new.pool.free ≡ length (drop 4 all) =
    ap (λ (ys : List ℕ). length ys) (c.take_into.ensures.free ∙ ap (drop 4) free) in
    let enough = c.requires.has_pool.enough in
    let long = length-drop 4 all in
    omega (arith, left, long, enough)

pub take_into-requires-2-clause-enough : goal.take_into-requires-2-clause-enough
take_into-requires-2-clause-enough c =
    let p = hardware_model c.args.hardware.now in
    let o = own_model c.args.own.now in
    let all : List ℕ = pool p o in
    let regions : c.regions_below-regions.result ≡ regions_in o.segments =
    rw c.as_slice-segments.ensures.value at c.regions_below-regions.ensures.value in
    let free : c.in-Ok.pool.free ≡ all =
    ap (λ (f : FreeList). f.free) c.in-Ok.ensures.free
    ∙ ap (λ (s : Share). colours.pool s) c.requires.share in
    let cloned : c.take_into.new.pool.free ≡ drop 4 all = c.take_into.ensures.free ∙ ap (drop 4) free in
    let root = taken 4 all c.take_one-root.result c.take_one-root.new.pool.free (sym cloned ∙ c.take_one-root.ensures.frame) in
    let left : length c.take_one-root.new.pool.free ≡ length (drop 5 all) = ap (λ (ys : List ℕ). length ys) root.left in
    let enough = c.requires.has_pool.enough in
    let long = length-drop 5 all in
    omega (arith, regions, left, long, enough)

pub give_pages-requires-clause-few : goal.give_pages-requires-clause-few
give_pages-requires-clause-few c =
    let few = frames_few (hardware_model c.args.hardware.now) (own_model c.args.own.now) c.requires.has_pool in
    omega (arith, few)

pub give_pages-requires-clause-enough : goal.give_pages-requires-clause-enough
give_pages-requires-clause-enough c =
    let p = hardware_model c.args.hardware.now in
    let o = own_model c.args.own.now in
    let all : List ℕ = pool p o in
    let regions : c.regions_below-regions.result ≡ regions_in o.segments =
    rw c.as_slice-segments.ensures.value at c.regions_below-regions.ensures.value in
    let free : c.in-Ok.pool.free ≡ all =
    ap (λ (f : FreeList). f.free) c.in-Ok.ensures.free
    ∙ ap (λ (s : Share). colours.pool s) c.requires.share in
    let cloned : c.take_into.new.pool.free ≡ drop 4 all = c.take_into.ensures.free ∙ ap (drop 4) free in
    let root = taken 4 all c.take_one-root.result c.take_one-root.new.pool.free (sym cloned ∙ c.take_one-root.ensures.frame) in
    let tabled : c.take_into-2.new.pool.free ≡ drop (5 + regions_in o.segments) all =
    c.take_into-2.ensures.free ∙ ap₂ drop regions root.left ∙ drop_twice 5 (regions_in o.segments) all in
    let left = ap (λ (ys : List ℕ). length ys) tabled in
    let enough = c.requires.has_pool.enough in
    let long = length-drop (5 + regions_in o.segments) all in
    omega (arith, left, long, enough)

pub give_pages-requires-clause-ascend : goal.give_pages-requires-clause-ascend
give_pages-requires-clause-ascend c =
    let p = hardware_model c.args.hardware.now in
    let o = own_model c.args.own.now in
    let all : List ℕ = pool p o in
    let regions : c.regions_below-regions.result ≡ regions_in o.segments =
    rw c.as_slice-segments.ensures.value at c.regions_below-regions.ensures.value in
    let free : c.in-Ok.pool.free ≡ all =
    ap (λ (f : FreeList). f.free) c.in-Ok.ensures.free
    ∙ ap (λ (s : Share). colours.pool s) c.requires.share in
    let cloned : c.take_into.new.pool.free ≡ drop 4 all = c.take_into.ensures.free ∙ ap (drop 4) free in
    let root = taken 4 all c.take_one-root.result c.take_one-root.new.pool.free (sym cloned ∙ c.take_one-root.ensures.frame) in
    let tabled : c.take_into-2.new.pool.free ≡ drop (5 + regions_in o.segments) all =
    c.take_into-2.ensures.free ∙ ap₂ drop regions root.left ∙ drop_twice 5 (regions_in o.segments) all in
    subst (λ (fs : List ℕ). IsStrictlyIncreasing fs) (sym tabled) (increasing_drop (5 + regions_in o.segments) all (pool_ascends p o))

pub give_pages-requires-clause-room : goal.give_pages-requires-clause-room
give_pages-requires-clause-room c =
    let p = hardware_model c.args.hardware.now in
    let o = own_model c.args.own.now in
    let all : List ℕ = pool p o in
    let free : c.in-Ok.pool.free ≡ all =
    ap (λ (f : FreeList). f.free) c.in-Ok.ensures.free
    ∙ ap (λ (s : Share). colours.pool s) c.requires.share in
    let clone : c.take_into.new.frames.items ≡ take 4 all =
    c.take_into.ensures.frames ∙ ap₂ (λ (ys zs : List ℕ). ys ++ zs) c.in_ok-kept.ensures.kept (ap (take 4) free) in
    let many = ap (λ (ys : List ℕ). length ys) clone in
    let four = length-take 4 all in
    let pages : c.pages_in-pages.result ≡ pages_in o.segments = rw c.as_slice-segments.ensures.value at c.pages_in-pages.ensures.value in
    let room = c.take_into.ensures.room in
    let capacity = c.in_ok-kept.ensures.frames in
    omega (arith, many, four, pages, room, capacity)

pub returns : goal.returns
unfolding frame_at
returns c =
    let p = hardware_model c.args.hardware.now in
    let o = own_model c.args.own.now in
    let all : List ℕ = pool p o in
    let many = pages_in o.segments in
    let regions : c.regions_below-regions.result ≡ regions_in o.segments =
    rw c.as_slice-segments.ensures.value at c.regions_below-regions.ensures.value in
    let fresh = c.in-Ok.ensures.free in
    let free : c.in-Ok.pool.free ≡ all = ap (λ (f : FreeList). f.free) fresh ∙ ap (λ (s : Share). colours.pool s) c.requires.share in
    let clone : c.take_into.new.frames.items ≡ clone_frames p o =
    c.take_into.ensures.frames ∙ ap₂ (λ (ys zs : List ℕ). ys ++ zs) c.in_ok-kept.ensures.kept (ap (take 4) free) in
    let cloned : c.take_into.new.pool.free ≡ drop 4 all = c.take_into.ensures.free ∙ ap (drop 4) free in
    let root = taken 4 all c.take_one-root.result c.take_one-root.new.pool.free (sym cloned ∙ c.take_one-root.ensures.frame) in
    let tabled : c.take_into-2.new.pool.free ≡ drop (5 + regions_in o.segments) all =
    c.take_into-2.ensures.free ∙ ap₂ drop regions root.left ∙ drop_twice 5 (regions_in o.segments) all in
    let caps =
    c.give_pages.ensures.caps ∙ ap (λ (fs : List ℕ). slots_after o fs many) tabled
    ∙ slots_are p o c.requires.has_pool.enough c.requires.has_pool.sound in
    let made = c.new-4.ensures in
    let r = c.new-4.result in
    let before = c.args.memory.now in
    let after = c.give_pages.new.memory in
    let used : AreZeroed (used_frames p o) before after =
    used_zeroed all c.take_one-root.result (regions_in o.segments) many before c.take_into.new.memory
    c.take_one-root.new.memory c.take_into-2.new.memory after root.so_far
    (subst (λ (fs : List ℕ). AreZeroed (take 4 fs) before c.take_into.new.memory) free
    c.take_into.ensures.zeroed) c.take_one-root.ensures.zeroed
    (subst₂ (λ (n : ℕ) (fs : List ℕ).
    AreZeroed (take n fs) c.take_one-root.new.memory c.take_into-2.new.memory) regions root.left
    c.take_into-2.ensures.zeroed)
    (subst (λ (fs : List ℕ). AreZeroed (take many fs) c.take_into-2.new.memory after) tabled c.give_pages.ensures.zeroed) in
    record {
      opened = if_ok (IsOpened p o) r (λ d e.
          is_opened p o c.requires.has_pool c.requires.apart d
          (at_ok IsNew r d e made.made)
          (at_ok (λ (x : Domain). x.map ≡ c.new-2.result) r d e made.map ∙ c.new-2.ensures.value ∙ sym root.at)
          (at_ok (λ (x : Domain). x.pool ≡ c.give_pages.new.pool) r d e made.pool
          ∙ ap₂ (λ (s : Share) (fs : List ℕ). record { share = s; free = fs })
          (c.give_pages.ensures.share ∙ c.take_into-2.ensures.share ∙ c.take_one-root.ensures.share
          ∙ c.take_into.ensures.share ∙ ap (λ (f : FreeList). f.share) fresh ∙ c.requires.share)
          (c.give_pages.ensures.free ∙ ap (drop many) tabled ∙ drop_twice (5 + regions_in o.segments) many all))
          (at_ok (λ (x : Domain). x.caps ≡ c.give_pages.new.caps) r d e made.caps ∙ caps)
          (at_ok (λ (x : Domain). x.interrupts ≡ c.in_ok-kept.field-0.interrupts) r d e made.interrupts ∙ c.in_ok-kept.ensures.opening)
          (ap threads_model (at_ok (λ (x : Domain). x.threads ≡ c.new-3.result) r d e made.threads) ∙ c.new-3.ensures.opening)
          (ap (λ v. v.items) (at_ok (λ (x : Domain). x.tables ≡ c.take_into-2.new.frames) r d e made.tables)
          ∙ c.take_into-2.ensures.frames ∙ ap₂ (λ (ys zs : List ℕ). ys ++ zs) c.in_ok-kept.ensures.no_tables (ap₂ take regions root.left))
          (ap (λ v. v.items) (at_ok (λ (x : Domain). x.kept ≡ c.give_pages.new.kept) r d e made.kept)
          ∙ c.give_pages.ensures.kept ∙ ap₂ (λ (ys zs : List ℕ). ys ++ zs) clone (ap₂ unnamed caps (ap (take many) tabled)))
          (ap layout_model (at_ok (λ (x : Domain). x.layout ≡ c.layout_of-layout.result) r d e made.layout)
          ∙ c.layout_of-layout.ensures.layout o (c.as_slice.ensures.value ∙ clone))
          (at_ok (λ (x : Domain). x.calls ≡ c.args.own.now.makes) r d e made.calls)
          (at_ok (λ (x : Domain). x.number ≡ c.args.own.now.number) r d e made.number));
      zeroed = if_ok (λ (d : Domain). AreZeroed (used_frames p o) before after) r (λ d e. used);
      elsewhere = still_elsewhere p o (frames_in o.segments) before after used;
      blank = still_blank (used_frames p o) before after used;
      size = c.give_pages.ensures.size ∙ c.take_into-2.ensures.size ∙ c.take_one-root.ensures.size ∙ c.take_into.ensures.size;
    }

pub returns-in-Err : goal.returns-in-Err
returns-in-Err c = record {
  opened = tt;
  zeroed = tt;
  elsewhere = λ f i in_memory in_frame other. refl;
  blank = λ h. h;
  size = refl;
}

pub returns-in_err-kept : goal.returns-in_err-kept
returns-in_err-kept c = record {
  opened = no_value _ c.from_residual.result _ c.from_residual.ensures.1;
  zeroed = no_value _ c.from_residual.result _ c.from_residual.ensures.1;
  elsewhere = λ f i in_memory in_frame other. refl;
  blank = λ h. h;
  size = refl;
}

pub pages_in-pages-requires-clause-sound : goal.pages_in-pages-requires-clause-sound
pages_in-pages-requires-clause-sound c = rw c.as_slice-segments.ensures.value c.requires.has_pool.sound.segments

pub room_of-requires : goal.room_of-requires
room_of-requires c = record { sound = c.requires.has_pool.sound }

pub take_into-requires : goal.take_into-requires
take_into-requires c =
    let all : List ℕ = pool (hardware_model c.args.hardware.now) (own_model c.args.own.now) in
    let free : c.in-Ok.pool.free ≡ all =
    ap (λ (f : FreeList). f.free) c.in-Ok.ensures.free
    ∙ ap (λ (s : Share). colours.pool s) c.requires.share in
    let share = ap (λ (f : FreeList). f.share.frames) c.in-Ok.ensures.free ∙ ap (λ (s : Share). s.frames) c.requires.share in
    record {
      room = omega (arith, ap (λ (fs : List ℕ). length fs) c.in_ok-kept.ensures.kept, c.in_ok-kept.ensures.frames);
      enough = omega (arith, ap (λ (fs : List ℕ). length fs) free, c.requires.has_pool.enough);
      size = omega (arith, share, c.requires.size);
    }

pub take_one-root-requires-clause-size : goal.take_one-root-requires-clause-size
take_one-root-requires-clause-size c =
    let share =
    ap (λ (s : Share). s.frames) c.take_into.ensures.share
    ∙ ap (λ (f : FreeList). f.share.frames) c.in-Ok.ensures.free
    ∙ ap (λ (s : Share). s.frames) c.requires.share in
    omega (arith, share, c.take_into.ensures.size, c.requires.size)

pub take_into-requires-2-clause-room : goal.take_into-requires-2-clause-room
take_into-requires-2-clause-room c =
    omega (arith, ap (λ (fs : List ℕ). length fs) c.in_ok-kept.ensures.no_tables, c.in_ok-kept.ensures.tables)

pub take_into-requires-2-clause-size : goal.take_into-requires-2-clause-size
take_into-requires-2-clause-size c =
    let before =
    c.take_one-root.ensures.share ∙ c.take_into.ensures.share
    ∙ ap (λ (f : FreeList). f.share) c.in-Ok.ensures.free ∙ c.requires.share in
    omega (arith, ap (λ (s : Share). s.frames) before, c.take_one-root.ensures.size, c.take_into.ensures.size, c.requires.size)

pub give_pages-requires-clause-sound : goal.give_pages-requires-clause-sound
give_pages-requires-clause-sound c = c.requires.has_pool.sound

pub give_pages-requires-clause-size : goal.give_pages-requires-clause-size
give_pages-requires-clause-size c =
    let before =
    c.take_into-2.ensures.share ∙ c.take_one-root.ensures.share ∙ c.take_into.ensures.share
    ∙ ap (λ (f : FreeList). f.share) c.in-Ok.ensures.free ∙ c.requires.share in
    omega (
      arith,
      ap (λ (s : Share). s.frames) before,
      c.take_into-2.ensures.size,
      c.take_one-root.ensures.size,
      c.take_into.ensures.size,
      c.requires.size,
    )

pub give_pages-requires-clause-lines : goal.give_pages-requires-clause-lines
give_pages-requires-clause-lines c = c.in_ok-kept.ensures.caps
