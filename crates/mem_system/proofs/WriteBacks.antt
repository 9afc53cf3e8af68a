-- The write-back of all dirty lines of a core, one place after the other.
use Rattle.std.proofs.Common.{◌≡◌, ◌∙◌, sym, refl, ap, subst, ℕ, ◌+◌, ◌<◌, Bool, false, not, ◌&&◌, List, [], ◌∷◌, ◌++◌, map, length, take, drop, get_or, Option, Some, None, arith, append-nil, take-append-drop}
use Rattle.std.proofs.lemmas.List.{take_more}
use Rattle.set_cache.specs.Rule.{Rule}
use Rattle.set_cache.specs.declared.KeptLine.{KeptLine}
use Rattle.set_cache.specs.Cache.{Sets, dirty_number, with_number, dirty_numbers, dirty_lines}
use Rattle.set_cache.specs.Contents.{StandsFor, shape_of}
use Rattle.set_cache.specs.Lines.{places_kept}
use Rattle.set_cache.proofs.Dirty.{dirty_numbers-append}
use Rattle.set_cache.proofs.Marks.{dirty_numbers-drop_more, dirty_numbers-none, dirty_lines-stand}
use Rattle.l2_colour.specs.Contents.{L2Contents}
use Rattle.mem_system.specs.Hierarchy.{Hierarchy}
use Rattle.mem_system.specs.Cost.{Core, Caches, WriteBack, is_pinned, marked_where, below, below_all}
use Rattle.mem_system.specs.Contents.{CoreContents, SystemStands, BelowSteps, hierarchy_of, system}

module _ (h : Hierarchy) (pinned : Bool) where
  -- the second level after these lines are written back
  abbrev written : Sets → List ℕ → Sets
  written sets numbers = (below_all h pinned sets (map WriteBack numbers)).l2

  -- which costs nothing there
  written-cost : (sets : Sets) (numbers : List ℕ) → (below_all h pinned sets (map WriteBack numbers)).cost ≡ 0
  unfolding below_all below
  written-cost sets [] = refl
  written-cost sets (number ∷ numbers) =
      let rest = written-cost (below h pinned sets (WriteBack number)).l2 numbers in
      omega (arith, rest)

  written-append : (sets : Sets) (xs ys : List ℕ) → written sets (xs ++ ys) ≡ written (written sets xs) ys
  unfolding below_all
  written-append sets [] ys = refl
  written-append sets (x ∷ xs) ys = written-append (below h pinned sets (WriteBack x)).l2 xs ys

  written-one : (sets : Sets) (number : ℕ)
      → written sets (number ∷ []) ≡ (below h pinned sets (WriteBack number)).l2
  unfolding below_all
  written-one sets number = refl

  -- nothing changes where lines go past it
  written-past : h.back ≡ false → (sets : Sets) (numbers : List ℕ) → written sets numbers ≡ sets
  unfolding below_all below
  written-past past sets [] = refl
  written-past past sets (number ∷ numbers) =
      written-past past (below h pinned sets (WriteBack number)).l2 numbers
      ∙ ap (λ (b : Bool). marked_where (b && not (is_pinned h pinned number)) h sets number) past

module _ (places : List (Option KeptLine)) (place : ℕ) (below_length : place < length places) where
  -- the dirty lines up to a place
  front_numbers : dirty_numbers (take (place + 1) places)
      ≡ dirty_numbers (take place places) ++ with_number (dirty_number (get_or places place None)) []
  front_numbers =
      ap dirty_numbers (take_more places place None below_length)
      ∙ dirty_numbers-append (take place places) (get_or places place None ∷ [])

  -- how many are left after it
  pub left_after : (found : Option ℕ) (left : ℕ) → found ≡ dirty_number (get_or places place None)
      → left ≡ length (dirty_numbers (drop place places))
      → left ≡ length (with_number found (dirty_numbers (drop (place + 1) places)))
  left_after found left is counted =
      counted ∙ ap length (dirty_numbers-drop_more places place below_length)
      ∙ ap (λ (o : Option ℕ). length (with_number o (dirty_numbers (drop (place + 1) places)))) (sym is)

module _ {P : Type 0} (rule : P → ℕ → Rule) (stands : P → ℕ → ℕ → List ℕ → Type 0) (core : CoreContents P) where
  abbrev places_of : List (Option KeptLine)
  places_of = places_kept core.l1d.table

  abbrev hierarchy_over : L2Contents P → Hierarchy
  hierarchy_over l2 = hierarchy_of rule (system core l2)

  abbrev dirty_of_core : Core → List ℕ
  dirty_of_core c = dirty_lines (shape_of rule core.l1d) c.l1d

  -- the dirty lines of the first places are written back
  pub record Front (place : ℕ) (old new : L2Contents P) : Type 0 where
    pub same : hierarchy_over new ≡ hierarchy_over old
    pub steps : (sets : Sets) → StandsFor stands old.cache sets
        → StandsFor stands new.cache (written (hierarchy_over old) core.pinned sets (dirty_numbers (take place places_of)))

  pub front_none : (l2 : L2Contents P) → Front 0 l2 l2
  unfolding below_all
  front_none l2 = record { same = refl; steps = λ sets for. for }

  pub front_skips : (place : ℕ) (old new : L2Contents P) → place < length places_of
      → None ≡ dirty_number (get_or places_of place None) → Front place old new → Front (place + 1) old new
  front_skips place old new lt none front = record {
    same = front.same;
    steps = λ sets for.
        let numbers : dirty_numbers (take place places_of) ≡ dirty_numbers (take (place + 1) places_of) =
        sym (append-nil (dirty_numbers (take place places_of)))
        ∙ ap (λ (o : Option ℕ). dirty_numbers (take place places_of) ++ with_number o []) none
        ∙ sym (front_numbers places_of place lt) in
        subst (λ (ns : List ℕ). StandsFor stands new.cache (written (hierarchy_over old) core.pinned sets ns)) numbers
        (front.steps sets for);
  }

  pub front_goes : (place line : ℕ) (old middle new : L2Contents P) → place < length places_of
      → Some line ≡ dirty_number (get_or places_of place None) → Front place old middle
      → hierarchy_over new ≡ hierarchy_over middle
      → ((sets : Sets) → StandsFor stands middle.cache sets
      → BelowSteps stands 0 new (below (hierarchy_over middle) core.pinned sets (WriteBack line)))
      → Front (place + 1) old new
  front_goes place line old middle new lt some front same step = record {
    same = same ∙ front.same;
    steps = λ sets for.
        let h : Hierarchy = hierarchy_over old in
        let first : List ℕ = dirty_numbers (take place places_of) in
        let between : Sets = written h core.pinned sets first in
        let one : StandsFor stands new.cache (below h core.pinned between (WriteBack line)).l2 =
        subst (λ (g : Hierarchy). StandsFor stands new.cache (below g core.pinned between (WriteBack line)).l2) front.same
        (step between (front.steps sets for)).next in
        let numbers : first ++ line ∷ [] ≡ dirty_numbers (take (place + 1) places_of) =
        ap (λ (o : Option ℕ). first ++ with_number o []) some ∙ sym (front_numbers places_of place lt) in
        let last : (below h core.pinned between (WriteBack line)).l2
        ≡ written h core.pinned sets (dirty_numbers (take (place + 1) places_of)) =
        sym (written-one h core.pinned between line)
        ∙ sym (written-append h core.pinned sets first (line ∷ []))
        ∙ ap (written h core.pinned sets) numbers in
        subst (StandsFor stands new.cache) last one;
  }

  -- all are, where none is left
  pub front_ends : (place : ℕ) (old new : L2Contents P) → length (dirty_numbers (drop place places_of)) ≡ 0
      → Front place old new
      → (caches : Caches) → SystemStands stands (system core old) caches
      → BelowSteps stands 0 new
      (below_all (hierarchy_over old) core.pinned caches.l2 (map WriteBack (dirty_of_core caches.core)))
  front_ends place old new none front caches for =
      let h : Hierarchy = hierarchy_over old in
      let first : List ℕ = dirty_numbers (take place places_of) in
      let numbers : first ≡ dirty_of_core caches.core =
      sym (append-nil first)
      ∙ ap (λ (ns : List ℕ). first ++ ns) (sym (dirty_numbers-none places_of place none))
      ∙ sym (dirty_numbers-append (take place places_of) (drop place places_of))
      ∙ ap dirty_numbers (take-append-drop place places_of)
      ∙ sym (dirty_lines-stand stands rule core.l1d caches.core.l1d for.core.l1d) in
      record {
        cost = sym (written-cost h core.pinned caches.l2 (dirty_of_core caches.core));
        next = subst (λ (ns : List ℕ). StandsFor stands new.cache (written h core.pinned caches.l2 ns)) numbers
            (front.steps caches.l2 for.l2);
      }

  -- or where lines go past it
  pub none_written : (l2 : L2Contents P) → l2.back ≡ false → (caches : Caches)
      → SystemStands stands (system core l2) caches
      → BelowSteps stands 0 l2
      (below_all (hierarchy_over l2) core.pinned caches.l2 (map WriteBack (dirty_of_core caches.core)))
  none_written l2 past caches for =
      let h : Hierarchy = hierarchy_over l2 in
      let numbers : List ℕ = dirty_of_core caches.core in
      record {
        cost = sym (written-cost h core.pinned caches.l2 numbers);
        next = subst (StandsFor stands l2.cache) (sym (written-past h core.pinned past caches.l2 numbers)) for.l2;
      }
