-- No line of the kernel's colour is ever dirty.
use Rattle.std.proofs.Common.{◌≡◌, ◌≢◌, ◌∙◌, sym, refl, ap, true≢false, eq-eqb, ne_eqb, ℕ, ◌%◌, Bool, true, false, List, [], ◌∷◌, Option, Some, None, get_or}
use Rattle.std.specs.Prelude.{◌==◌, ◌&&◌, not, All}
use Rattle.std.proofs.lemmas.Bool.{false_from_ne_true}
use Rattle.std.proofs.lemmas.List.Elements.{All-head, All-tail}
use Rattle.tp_base.specs.Table.{at-put_by}
use Rattle.set_cache.specs.declared.KeptLine.{KeptLine}
use Rattle.set_cache.specs.Cache.{CacheSet, Sets, fresh_set, set_at, way_of, step_of, touch_of}
use Rattle.set_cache.proofs.Dirty.{EachOf, step_fits, EachDirty-empty, EachDirty-weaker, empty_kept, set_at-marked_other}
use Rattle.l2_colour.specs.Colours.{IsColoured, colour_of_set}
use Rattle.mem_system.specs.Hierarchy.{Hierarchy, colour_of_line}
use Rattle.mem_system.specs.Cost.{Touch, Caches, cold, fresh_core, Passed, Read, WriteBack, marked_where, is_pinned, below, below_if, below_by, below_all, on_core, pass_on, touched, touched_all, and_then}
use Rattle.mem_system.specs.TouchLaws.{lines_in_l2}
use Rattle.mem_system.proofs.TouchLaws.{line_elsewhere, handed_on}
use Rattle.mem_system.specs.Sharing.{IsOwnLine, IsSharing, MayTouch, MayTouchAll, kept_at, KernelIsClean}
use Rattle.mem_system.specs.SharingLaws.{ColdIsCleanLaw, StaysCleanLaw}
use Rattle.mem_system.proofs.OwnTouches.{own_dirty}
use Rattle.mem_system.proofs.KernelSets.{any_colour, any_touch}

module _ (h : Hierarchy) (coloured : IsColoured h.line_size h.l2.count) where
  -- no way of a set of colour 0 has a mark
  abbrev pub IsCleanBelow : Sets → Type 0
  IsCleanBelow l2 = (s way : ℕ) (line : KeptLine) → colour_of_set h.line_size s ≡ 0 → kept_at h l2 s way ≡ Some line → line.dirty ≡ false

  pub none_of : (l2 : Sets) → IsCleanBelow l2 → (s : ℕ) → colour_of_set h.line_size s ≡ 0
      → EachOf (λ _. ⊥) (set_at h.l2.ways l2 s).places
  none_of l2 clean s kernel way line at dirty = true≢false (sym dirty ∙ clean s way line kernel at)

  -- a read brings a line without one
  read_clean : (sets : Sets) (line : ℕ) → IsCleanBelow sets
      → IsCleanBelow (touch_of h.l2 sets line false).next
  read_clean sets line clean s way kept kernel at =
      let home : ℕ = line % h.l2.count in
      let its : CacheSet = set_at h.l2.ways sets home in
      at-put_by (fresh_set h.l2.ways) sets home (step_of h.l2.rule its line false).next
      (λ k (one : CacheSet). (w : ℕ) (l : KeptLine) → colour_of_set h.line_size k ≡ 0 → get_or one.places w None ≡ Some l → l.dirty ≡ false)
      (λ w l here is.
      false_from_ne_true l.dirty
      (step_fits (λ _. ⊥) h.l2.rule its line false (way_of line its.places) (λ e. true≢false (sym e))
      (none_of sets clean home here) w l is))
      (λ k other w l here is. clean k w l here is) s way kept kernel at

  -- a mark comes to a line of another colour
  pub marked_clean : (test : Bool) (sets : Sets) (line : ℕ) → colour_of_line h line ≢ 0 → IsCleanBelow sets
      → IsCleanBelow (marked_where test h sets line)
  marked_clean false sets line apart clean = clean
  marked_clean true sets line apart clean = λ s way kept kernel at.
      let other = line_elsewhere h s line coloured (λ same. apart (sym same ∙ kernel)) in
      clean s way kept kernel
      (sym (ap (λ (one : CacheSet). get_or one.places way None) (set_at-marked_other h.l2 sets line s other)) ∙ at)

  -- what may come there
  abbrev MayCome : Passed → Type 0
  MayCome (Read line) = Unit {0}
  MayCome (WriteBack line) = colour_of_line h line ≢ 0

  read_if_clean : (test : Bool) (sets : Sets) (line : ℕ) → IsCleanBelow sets
      → IsCleanBelow (below_if test h sets line).l2
  unfolding below_if below_by
  read_if_clean true sets line clean = clean
  read_if_clean false sets line clean = read_clean sets line clean

  below_clean : (pinned : Bool) (one : Passed) (sets : Sets) → MayCome one → IsCleanBelow sets
      → IsCleanBelow (below h pinned sets one).l2
  unfolding below
  below_clean pinned (Read line) sets may clean = read_if_clean (is_pinned h pinned line) sets line clean
  below_clean pinned (WriteBack line) sets may clean = marked_clean (h.back && not (is_pinned h pinned line)) sets line may clean

  all_clean : (pinned : Bool) (passed : List Passed) (sets : Sets) → All MayCome passed → IsCleanBelow sets
      → IsCleanBelow (below_all h pinned sets passed).l2
  unfolding below_all
  all_clean pinned [] sets may clean = clean
  all_clean pinned (one ∷ passed) sets may clean =
      all_clean pinned passed (below h pinned sets one).l2 (All-tail MayCome one passed may)
      (below_clean pinned one sets (All-head MayCome one passed may) clean)

  -- ---- touches

  -- a line of another colour is of any colour but the kernel's
  pub is_any : (line : ℕ) → colour_of_line h line ≢ 0 → IsOwnLine h any_colour line
  is_any line apart = ap not (ne_eqb (colour_of_line h line) 0 apart)

  any_apart : (line : ℕ) → IsOwnLine h any_colour line → colour_of_line h line ≢ 0
  any_apart line its = λ same. true≢false (sym its ∙ ap not (eq-eqb (colour_of_line h line) 0 same))

  pub touch_clean : (own : ℕ → Bool) (region : List ℕ) → own 0 ≡ false
      → (pinned : Bool) (c : Caches) (touch : Touch) → MayTouch h own region touch
      → KernelIsClean h c → KernelIsClean h (touched h pinned c touch).caches
  unfolding touched pass_on
  touch_clean own region not_kernel pinned c touch may clean = record {
    core =
        EachDirty-weaker (IsOwnLine h any_colour) (λ line. colour_of_line h line ≢ 0) h.l1d
        (touched h pinned c touch).caches.core.l1d any_apart
        (own_dirty h any_colour region pinned c touch (any_touch h own region not_kernel touch may)
        (EachDirty-weaker (λ line. colour_of_line h line ≢ 0) (IsOwnLine h any_colour) h.l1d c.core.l1d is_any clean.core));
    l2 =
        all_clean pinned (on_core h c.core touch).passed c.l2
        (handed_on MayCome h c.core touch (λ k d lt. tt) clean.core) clean.l2;
  }

  touches_clean : (own : ℕ → Bool) (region : List ℕ) → own 0 ≡ false
      → (pinned : Bool) (ts : List Touch) (c : Caches) → MayTouchAll h own region ts
      → KernelIsClean h c → KernelIsClean h (touched_all h pinned c ts).caches
  unfolding touched_all and_then
  touches_clean own region not_kernel pinned [] c may clean = clean
  touches_clean own region not_kernel pinned (t ∷ ts) c may clean =
      touches_clean own region not_kernel pinned ts (touched h pinned c t).caches may.1
      (touch_clean own region not_kernel pinned c t may.0 clean)

-- ---- the laws

pub cold_clean_law : ColdIsCleanLaw
unfolding cold fresh_core
cold_clean_law h = record {
  core = EachDirty-empty (λ line. colour_of_line h line ≢ 0) h.l1d;
  l2 = λ s way line kernel at. absurd (let some : None ≡ Some line = sym (empty_kept h.l2.ways s way) ∙ at in cc);
}

pub stays_clean_law : StaysCleanLaw
stays_clean_law h own region pinned ts c sharing may clean =
    touches_clean h sharing.coloured own region sharing.not_kernel pinned ts c may clean
