-- What a domain touches counts the same beside others as alone.
use Rattle.std.proofs.Common.{◌≡◌, ◌∙◌, sym, refl, ap, ap₂, inl, inr, ℕ, ◌%◌, Bool, true, false, List, [], ◌∷◌}
use Rattle.std.specs.Prelude.{All}
use Rattle.std.proofs.lemmas.List.Elements.{All-head, All-tail}
use Rattle.set_cache.specs.declared.Touch.{Touch as Answer}
use Rattle.set_cache.specs.Cache.{Sets, set_at}
use Rattle.mem_system.specs.Hierarchy.{Hierarchy}
use Rattle.mem_system.specs.Cost.{Touch, Core, Caches, Passed, Read, WriteBack, below, on_core, touched}
use Rattle.mem_system.specs.TouchLaws.{holds}
use Rattle.mem_system.specs.Tally.{plus, Reader, reader_of, tally_by, tally_if, tally_below, tally_below_all, tally_on_core, tally, tally_all}
use Rattle.mem_system.specs.TallyLaws.{TallyBesideLaw}
use Rattle.mem_system.specs.Sharing.{IsOwnLine, IsShared, IsSharing, MayTouch, MayTouchAll, BesideL2, BesideCaches}
use Rattle.mem_system.proofs.TouchLaws.{handed_on}
use Rattle.mem_system.proofs.OwnTouches.{same_answer, MayPass, may_reach, own_set, own_unpinned, shared_pinned, below_beside, touch_beside}
use Rattle.mem_system.proofs.TallyCases.{if_second}

module _ (h : Hierarchy) (own : ℕ → Bool) (region : List ℕ) (sharing : IsSharing h own region) where
  own_counts : (reader : Reader) (first sets alone : Sets) (line : ℕ) → BesideL2 h own region first sets alone
      → IsOwnLine h own line → tally_if false reader h sets line ≡ tally_if false reader h alone line
  unfolding tally_if
  own_counts reader first sets alone line beside mine =
      let here : set_at h.l2.ways sets (line % h.l2.count) ≡ set_at h.l2.ways alone (line % h.l2.count)
      = beside.same (line % h.l2.count) (own_set h own region sharing line mine) in
      ap (λ (answer : Answer). tally_by reader h answer) (same_answer h.l2 sets alone line here)

  -- a shared line is held beside others, and pinned alone
  shared_counts : (reader : Reader) (first sets alone : Sets) (line : ℕ) → BesideL2 h own region first sets alone
      → IsShared region line → tally_if false reader h sets line ≡ tally_if true reader h alone line
  unfolding tally_if
  shared_counts reader first sets alone line beside (i, lt, same) =
      if_second h false reader sets line (ap (holds h.l2 sets) same ∙ beside.resident i lt)

  below_counts : (reader : Reader) (first sets alone : Sets) (one : Passed)
      → BesideL2 h own region first sets alone → MayPass h own region one
      → tally_below reader h false sets one ≡ tally_below reader h true alone one
  unfolding tally_below
  below_counts reader first sets alone (Read line) beside (inl mine) =
      own_counts reader first sets alone line beside mine
      ∙ ap (λ (pinned : Bool). tally_if pinned reader h alone line)
      (sym (own_unpinned h own region sharing line mine))
  below_counts reader first sets alone (Read line) beside (inr shared) =
      shared_counts reader first sets alone line beside shared
      ∙ ap (λ (pinned : Bool). tally_if pinned reader h alone line)
      (sym (shared_pinned h own region sharing line shared))
  below_counts reader first sets alone (WriteBack line) beside mine = refl

  all_counts : (reader : Reader) (first : Sets) (passed : List Passed) (sets alone : Sets)
      → BesideL2 h own region first sets alone → All (MayPass h own region) passed
      → tally_below_all reader h false sets passed ≡ tally_below_all reader h true alone passed
  unfolding tally_below_all
  all_counts reader first [] sets alone beside may = refl
  all_counts reader first (p ∷ passed) sets alone beside may =
      let mine = All-head (MayPass h own region) p passed may in
      let next = (below_beside h own region sharing first sets alone p beside mine).l2 in
      ap₂ plus (below_counts reader first sets alone p beside mine)
      (all_counts reader first passed (below h false sets p).l2 (below h true alone p).l2 next
      (All-tail (MayPass h own region) p passed may))

  touch_counts : (first : Sets) (c alone : Caches) (touch : Touch) → BesideCaches h own region first c alone
      → MayTouch h own region touch → tally h false c touch ≡ tally h true alone touch
  unfolding tally
  touch_counts first c alone touch beside may =
      let goes = handed_on (MayPass h own region) h c.core touch (may_reach h own region touch may) beside.dirty in
      let passed = (on_core h c.core touch).passed in
      ap (plus (tally_on_core h c.core touch))
      (all_counts (reader_of touch) first passed c.l2 alone.l2 beside.l2 goes)
      ∙ ap (λ (core : Core). tally h true (record { core = core; l2 = alone.l2 }) touch) beside.core

  touches_count : (first : Sets) (ts : List Touch) (c alone : Caches) → BesideCaches h own region first c alone
      → MayTouchAll h own region ts → tally_all h false c ts ≡ tally_all h true alone ts
  unfolding tally_all
  touches_count first [] c alone beside may = refl
  touches_count first (t ∷ ts) c alone beside may =
      let one = touch_beside h own region sharing first c alone t beside may.0 in
      ap₂ plus (touch_counts first c alone t beside may.0)
      (touches_count first ts (touched h false c t).caches (touched h true alone t).caches one.caches may.1)

pub tally_beside_law : TallyBesideLaw
tally_beside_law h own region first ts c alone sharing may beside =
    touches_count h own region sharing first ts c alone beside may
