-- The sets of the kernel's colour keep shared lines alone.
use Rattle.std.proofs.Common.{◌≡◌, ◌∙◌, sym, refl, ap, subst, inl, inr, true≢false, eqb-true, eq-eqb, ne_eqb, ℕ, zero, suc, ◌%◌, Bool, true, false, List, [], ◌∷◌, replicate, Option, Some, None, get_or}
use Rattle.std.specs.Prelude.{◌==◌, ◌&&◌, not, All, take, option_map}
use Rattle.std.proofs.lemmas.List.Elements.{All-head, All-tail, All-weaker}
use Rattle.tp_base.specs.Table.{at-put_by}
use Rattle.set_cache.specs.declared.KeptLine.{KeptLine}
use Rattle.set_cache.specs.Cache.{CacheSet, Sets, fresh_set, set_at, is_line, step_of, marked_if}
use Rattle.set_cache.proofs.Dirty.{empty_kept, marked_at, is_here, set_at-marked}
use Rattle.l2_colour.specs.Colours.{IsColoured, colour_of_set}
use Rattle.mem_system.specs.Hierarchy.{Hierarchy, colour_of_line}
use Rattle.mem_system.specs.Cost.{Touch, Fetch, Load, Store, WalkRead, Look, Branch, Jump, EmptyTlb, Flush, Charge, Caches, cold, Passed, Read, WriteBack, marked_where, is_pinned, below, below_if, below_by, below_all, on_core, pass_on, touched, touched_all, and_then}
use Rattle.mem_system.specs.TouchLaws.{lines_in_l2}
use Rattle.mem_system.proofs.TouchLaws.{set_colour, handed_on}
use Rattle.mem_system.specs.Operations.{prefetch}
use Rattle.mem_system.specs.Sharing.{IsOwnLine, IsShared, MayTouch, MayTouchAll, KeepsSharedAlone}
use Rattle.mem_system.specs.SharingLaws.{EmptyLaw, SharedAloneLaw, PrefetchAloneLaw}
use Rattle.mem_system.proofs.ResidencyWays.{only_touched}
use Rattle.mem_system.proofs.OwnTouches.{MayReach, may_reach, prefetch_may}

pub empty_law : EmptyLaw
unfolding cold
empty_law h s way = empty_kept h.l2.ways s way

-- what a way keeps where it keeps this line
kept_is : (number : ℕ) (kept : Option KeptLine) → is_line number kept ≡ true
    → (line : KeptLine) × (kept ≡ Some line) × (line.number ≡ number)
kept_is number None is = absurd (true≢false (sym is))
kept_is number (Some line) is = (line, refl, eqb-true line.number number is)

module _ (h : Hierarchy) (region : List ℕ) (coloured : IsColoured h.line_size h.l2.count) where
  -- a line that may come to them is shared
  abbrev MayStand : ℕ → Type 0
  MayStand line = colour_of_line h line ≡ 0 → IsShared region line

  -- one line at the second level
  line_alone : (test : Bool) (sets : Sets) (line : ℕ) → MayStand line → KeepsSharedAlone h region sets
      → KeepsSharedAlone h region (below_if test h sets line).l2
  unfolding below_if below_by
  line_alone true sets line may alone = alone
  line_alone false sets line may alone = λ s.
      let home : ℕ = line % h.l2.count in
      let set : CacheSet = set_at h.l2.ways sets home in
      at-put_by (fresh_set h.l2.ways) sets home (step_of h.l2.rule set line false).next
      (λ k (one : CacheSet). (way : ℕ) (kept : KeptLine) → colour_of_set h.line_size k ≡ 0
      → get_or one.places way None ≡ Some kept → IsShared region kept.number)
      (λ way kept kernel is.
      let stands = ap (is_line kept.number) is ∙ eq-eqb kept.number kept.number refl in
      elim (only_touched h.l2.rule set line kept.number (way, stands)) [
        | inl before ↦
            let old = kept_is kept.number (get_or set.places before.0 None) before.1 in
            subst (IsShared region) old.2 (alone home before.0 old.0 kernel old.1)
        | inr same ↦ subst (IsShared region) (sym same) (may (sym (set_colour h line coloured) ∙ kernel))
      ])
      (λ k other way kept. alone k way kept) s

  -- a way that has a line after a mark had it before
  kept_before : (test : ℕ → Bool) (old : Option KeptLine) (kept : KeptLine) → marked_if test old ≡ Some kept
      → (line : KeptLine) × (old ≡ Some line) × (line.number ≡ kept.number)
  kept_before test None kept is = absurd (let x : None ≡ Some kept = is in cc)
  kept_before test (Some line) kept is =
      let same : Some line.number ≡ Some kept.number = ap (option_map (λ (k : KeptLine). k.number)) is in
      (line, refl, cc)

  -- a mark brings no line
  marked_alone : (test : Bool) (sets : Sets) (line : ℕ) → KeepsSharedAlone h region sets
      → KeepsSharedAlone h region (marked_where test h sets line)
  marked_alone false sets line alone = alone
  marked_alone true sets line alone = λ s way kept kernel is.
      let its : CacheSet = set_at h.l2.ways sets s in
      let here = is_here h.l2 s line in
      let old =
      kept_before here (get_or its.places way None) kept
      (sym (ap (λ (one : CacheSet). get_or one.places way None) (set_at-marked h.l2 sets line s) ∙ marked_at here its.places way) ∙ is) in
      subst (IsShared region) old.2 (alone s way old.0 kernel old.1)

  -- what may come there
  abbrev MayCome : Passed → Type 0
  MayCome (Read line) = MayStand line
  MayCome (WriteBack line) = Unit {0}

  one_alone : (pinned : Bool) (one : Passed) (sets : Sets) → MayCome one → KeepsSharedAlone h region sets
      → KeepsSharedAlone h region (below h pinned sets one).l2
  unfolding below
  one_alone pinned (Read line) sets may alone = line_alone (is_pinned h pinned line) sets line may alone
  one_alone pinned (WriteBack line) sets may alone = marked_alone (h.back && not (is_pinned h pinned line)) sets line alone

  lines_alone : (pinned : Bool) (passed : List Passed) (sets : Sets) → All MayCome passed
      → KeepsSharedAlone h region sets
      → KeepsSharedAlone h region (below_all h pinned sets passed).l2
  unfolding below_all
  lines_alone pinned [] sets may alone = alone
  lines_alone pinned (one ∷ passed) sets may alone =
      lines_alone pinned passed (below h pinned sets one).l2 (All-tail MayCome one passed may)
      (one_alone pinned one sets (All-head MayCome one passed may) alone)

  touch_alone : (pinned : Bool) (c : Caches) (touch : Touch) → All MayStand (lines_in_l2 touch)
      → KeepsSharedAlone h region c.l2
      → KeepsSharedAlone h region (touched h pinned c touch).caches.l2
  unfolding touched pass_on
  touch_alone pinned c touch may alone =
      lines_alone pinned (on_core h c.core touch).passed c.l2
      (handed_on MayCome h c.core touch may (λ s way line at marked. tt)) alone

  -- no line of a domain's own has colour 0
  reached_stand : (own : ℕ → Bool) → own 0 ≡ false → (line : ℕ) → MayReach h own region line → MayStand line
  reached_stand own not_kernel line (inl mine) = λ kernel. absurd (true≢false (sym mine ∙ ap own kernel ∙ not_kernel))
  reached_stand own not_kernel line (inr shared) = λ kernel. shared

  touches_alone : (own : ℕ → Bool) → own 0 ≡ false → (pinned : Bool) (ts : List Touch) (c : Caches)
      → MayTouchAll h own region ts
      → KeepsSharedAlone h region c.l2 → KeepsSharedAlone h region (touched_all h pinned c ts).caches.l2
  unfolding touched_all and_then
  touches_alone own not_kernel pinned [] c may alone = alone
  touches_alone own not_kernel pinned (t ∷ ts) c may alone =
      let stand =
      All-weaker (MayReach h own region) MayStand (reached_stand own not_kernel) (lines_in_l2 t)
      (may_reach h own region t may.0) in
      touches_alone own not_kernel pinned ts (touched h pinned c t).caches may.1 (touch_alone pinned c t stand alone)

pub shared_alone_law : SharedAloneLaw
shared_alone_law h own region pinned ts c sharing may alone =
    touches_alone h region sharing.coloured own sharing.not_kernel pinned ts c may alone

-- as the touches of a domain of no colour
pub prefetch_alone_law : PrefetchAloneLaw
prefetch_alone_law h own region pinned c sharing alone =
    touches_alone h region sharing.coloured (λ _. false) refl pinned (prefetch region) c (prefetch_may h (λ _. false) region) alone

-- ---- touches of several domains, one after the other

-- every colour but the kernel's
abbrev pub any_colour : ℕ → Bool
any_colour colour = not (colour == 0)

any_own : (h : Hierarchy) (own : ℕ → Bool) → own 0 ≡ false → (line : ℕ) → IsOwnLine h own line
    → IsOwnLine h any_colour line
any_own h own not_kernel line mine = ap not (ne_eqb (colour_of_line h line) 0 (λ is. true≢false (sym mine ∙ ap own is ∙ not_kernel)))

pub any_touch : (h : Hierarchy) (own : ℕ → Bool) (region : List ℕ) → own 0 ≡ false → (t : Touch)
    → MayTouch h own region t → MayTouch h any_colour region t
any_touch h own region not_kernel (Fetch line) may = any_own h own not_kernel line may
any_touch h own region not_kernel (Load line) (inl may) = inl (any_own h own not_kernel line may)
any_touch h own region not_kernel (Load line) (inr may) = inr may
any_touch h own region not_kernel (Store line) may = any_own h own not_kernel line may
any_touch h own region not_kernel (WalkRead line) may = any_own h own not_kernel line may
any_touch h own region not_kernel (Look page reads found) may =
    All-weaker (IsOwnLine h own) (IsOwnLine h any_colour) (any_own h own not_kernel) reads may
any_touch h own region not_kernel (Branch pc taken target) may = tt
any_touch h own region not_kernel (Jump pc target) may = tt
any_touch h own region not_kernel EmptyTlb may = tt
any_touch h own region not_kernel Flush may = tt
any_touch h own region not_kernel (Charge cycles) may = tt

-- what one domain may touch is what some domain may
pub any_may : (h : Hierarchy) (own : ℕ → Bool) (region : List ℕ) → own 0 ≡ false → (ts : List Touch)
    → MayTouchAll h own region ts
    → MayTouchAll h any_colour region ts
any_may h own region not_kernel [] may = tt
any_may h own region not_kernel (t ∷ ts) may = (any_touch h own region not_kernel t may.0, any_may h own region not_kernel ts may.1)

-- and so are the first so many
pub take_may : (h : Hierarchy) (own : ℕ → Bool) (region : List ℕ) (n : ℕ) (ts : List Touch)
    → MayTouchAll h own region ts
    → MayTouchAll h own region (take n ts)
take_may h own region zero ts may = tt
take_may h own region (suc n) [] may = tt
take_may h own region (suc n) (t ∷ ts) may = (may.0, take_may h own region n ts may.1)
