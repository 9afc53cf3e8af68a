-- Once all shared lines stand in the kernel's sets, touches leave the places of these as they are.
use Rattle.std.proofs.Common.{◌≡◌, ◌≢◌, ◌∙◌, sym, refl, ap, inl, inr, true≢false, ℕ, ◌%◌, Bool, true, false, List, [], ◌∷◌}
use Rattle.std.specs.Prelude.{◌&&◌, All, slice_index}
use Rattle.std.proofs.lemmas.List.Elements.{All-head, All-tail}
use Rattle.set_cache.specs.Cache.{CacheSet, Sets, touch_of}
use Rattle.set_cache.proofs.Steps.{set_at-touch_other}
use Rattle.set_cache.proofs.Dirty.{EachDirty-weaker, set_at-marked_other}
use Rattle.l2_colour.specs.Colours.{IsColoured, colour_of_set}
use Rattle.mem_system.specs.Hierarchy.{Hierarchy, colour_of_line}
use Rattle.mem_system.specs.Cost.{Touch, Caches, Passed, Read, WriteBack, marked_where, below, below_if, below_by, below_all, on_core, pass_on, touched, touched_all, and_then}
use Rattle.mem_system.specs.TouchLaws.{holds}
use Rattle.mem_system.proofs.TouchLaws.{set_colour, line_elsewhere, handed_on}
use Rattle.mem_system.specs.Sharing.{IsOwnLine, IsSharing, MayTouch, MayTouchAll, OwnDirty, Resident, KernelIsClean, SameKernelPlaces}
use Rattle.mem_system.specs.SharingLaws.{PlacesStayLaw}
use Rattle.mem_system.proofs.OwnTouches.{held_places, same_held, MayReach, may_reach, MayPass, own_dirty}
use Rattle.mem_system.proofs.KernelSets.{any_colour}
use Rattle.mem_system.proofs.Clean.{is_any}

module _ (h : Hierarchy) (own : ℕ → Bool) (region : List ℕ) (sharing : IsSharing h own region) where
  -- no line of a domain's own stands in a set of the kernel's
  own_apart : (line : ℕ) → IsOwnLine h own line → (s : ℕ) → colour_of_set h.line_size s ≡ 0 → s ≢ line % h.l2.count
  own_apart line mine s kernel =
      line_elsewhere h s line sharing.coloured
      (λ same. true≢false (sym mine ∙ ap own (sym same ∙ kernel) ∙ sharing.not_kernel))

  -- ---- one line at the second level

  read_places : (sets : Sets) (line : ℕ) → MayReach h own region line → Resident h region sets
      → SameKernelPlaces h (touch_of h.l2 sets line false).next sets
  read_places sets line (inl mine) there s kernel =
      ap (λ (set : CacheSet). set.places) (set_at-touch_other h.l2 sets line false s (own_apart line mine s kernel))
  read_places sets line (inr (i, lt, same)) there s kernel =
      held_places h.l2 sets line (ap (holds h.l2 sets) same ∙ there i lt) s

  marked_places : (test : Bool) (sets : Sets) (line : ℕ) → IsOwnLine h own line
      → SameKernelPlaces h (marked_where test h sets line) sets
  marked_places true sets line mine s kernel =
      ap (λ (set : CacheSet). set.places) (set_at-marked_other h.l2 sets line s (own_apart line mine s kernel))
  marked_places false sets line mine s kernel = refl

  one_places : (one : Passed) (sets : Sets) → MayPass h own region one → Resident h region sets
      → SameKernelPlaces h (below h false sets one).l2 sets
  unfolding below below_if below_by
  one_places (Read line) sets may there = read_places sets line may there
  one_places (WriteBack line) sets mine there = marked_places (h.back && true) sets line mine

  -- so the shared lines, which have colour 0, are there still
  still_there : (sets next : Sets) → SameKernelPlaces h next sets → Resident h region sets → Resident h region next
  still_there sets next same there i lt =
      let line : ℕ = slice_index region i in
      same_held h.l2 next sets line (same (line % h.l2.count) (set_colour h line sharing.coloured ∙ sharing.kernel i lt))
      ∙ there i lt

  -- ---- lines, and touches, one after the other

  all_places : (passed : List Passed) (sets : Sets) → All (MayPass h own region) passed → Resident h region sets
      → SameKernelPlaces h (below_all h false sets passed).l2 sets
  unfolding below_all
  all_places [] sets may there s kernel = refl
  all_places (one ∷ passed) sets may there s kernel =
      let next : Sets = (below h false sets one).l2 in
      let first : SameKernelPlaces h next sets = one_places one sets (All-head (MayPass h own region) one passed may) there in
      all_places passed next (All-tail (MayPass h own region) one passed may) (still_there sets next first there) s kernel
      ∙ first s kernel

  touch_places : (c : Caches) (t : Touch) → MayTouch h own region t → OwnDirty h own c.core → Resident h region c.l2
      → SameKernelPlaces h (touched h false c t).caches.l2 c.l2
  unfolding touched pass_on
  touch_places c t may dirty there =
      all_places (on_core h c.core t).passed c.l2
      (handed_on (MayPass h own region) h c.core t (may_reach h own region t may) dirty) there

  touches_places : (ts : List Touch) (c : Caches) → MayTouchAll h own region ts → OwnDirty h own c.core
      → Resident h region c.l2
      → SameKernelPlaces h (touched_all h false c ts).caches.l2 c.l2
  unfolding touched_all and_then
  touches_places [] c may dirty there s kernel = refl
  touches_places (t ∷ ts) c may dirty there s kernel =
      let next : Caches = (touched h false c t).caches in
      let first : SameKernelPlaces h next.l2 c.l2 = touch_places c t may.0 dirty there in
      touches_places ts next may.1 (own_dirty h own region false c t may.0 dirty) (still_there c.l2 next.l2 first there) s kernel
      ∙ first s kernel

pub places_stay_law : PlacesStayLaw
places_stay_law h own region ts c sharing may dirty there = touches_places h own region sharing ts c may dirty there

-- where no line of the kernel's colour is dirty, each that is has a domain's
pub clean_dirty : (h : Hierarchy) (c : Caches) → IsColoured h.line_size h.l2.count → KernelIsClean h c
    → OwnDirty h any_colour c.core
clean_dirty h c coloured clean =
    EachDirty-weaker (λ line. colour_of_line h line ≢ 0) (IsOwnLine h any_colour) h.l1d c.core.l1d
    (is_any h coloured) clean.core
