-- The reads of a walk at the second level: none, one or two.
use Rattle.std.proofs.Common.{arith, ◌≡◌, ◌∙◌, sym, refl, ap, subst, subst₂, ℕ, ◌+◌, ◌/◌, List, [], ◌∷◌, length, map, take}
use Rattle.std.specs.Prelude.{slice_index}
use Rattle.set_cache.specs.Rule.{Rule}
use Rattle.set_cache.specs.Cache.{Sets}
use Rattle.set_cache.specs.Contents.{StandsFor}
use Rattle.l2_colour.specs.Contents.{L2Contents}
use Rattle.mem_system.specs.Hierarchy.{Hierarchy}
use Rattle.mem_system.specs.Cost.{Read, below, below_all}
use Rattle.mem_system.specs.Contents.{CoreContents, BelowSteps, hierarchy_of, system}
use Rattle.mem_system.specs.Translation.{lines_of}

one_of : (count : ℕ) (xs : List ℕ) → length xs ≡ 2 → count ≡ 1 → slice_index xs 0 ∷ [] ≡ take count xs
one_of count [] long is = absurd (omega (arith, long))
one_of count (a ∷ xs) long is = ap (λ (n : ℕ). take n (a ∷ xs)) (sym is)

both_of : (count : ℕ) (xs : List ℕ) → length xs ≡ 2 → count ≡ 2
    → slice_index xs 0 ∷ slice_index xs 1 ∷ [] ≡ take count xs
both_of count [] long is = absurd (omega (arith, long))
both_of count (a ∷ []) long is = absurd (omega (arith, long))
both_of count (a ∷ b ∷ xs) long is = ap (λ (n : ℕ). take n (a ∷ b ∷ xs)) (sym is)

module _ {P : Type 0} (rule : P → ℕ → Rule) (stands : P → ℕ → ℕ → List ℕ → Type 0) (core : CoreContents P) (old : L2Contents P) where
  -- what reads at these addresses come to
  abbrev pub Come : ℕ → L2Contents P → List ℕ → Type 0
  Come cycles new addresses = (sets : Sets) → StandsFor stands old.cache sets
      → BelowSteps stands cycles new (below_all (hierarchy_of rule (system core old)) core.pinned sets
      (map Read (lines_of old.line_size addresses)))

  module _ (array : List ℕ) (count : ℕ) where
    pub reads_none : count ≡ 0 → Come 0 old (take count array)
    unfolding below_all lines_of
    reads_none is = subst (λ (n : ℕ). Come 0 old (take n array)) (sym is) (λ sets for. record { cost = refl; next = for })

    module _ (long : length array ≡ 2) (line first : ℕ) (middle : L2Contents P) (at : line ≡ slice_index array 0 / old.line_size)
        (reads : (sets : Sets) → StandsFor stands old.cache sets
        → BelowSteps stands first middle (below (hierarchy_of rule (system core old)) core.pinned sets (Read line))) where
      pub reads_one : count ≡ 1 → Come first middle (take count array)
      unfolding below_all lines_of
      reads_one is = subst (Come first middle) (one_of count array long is) (λ sets for.
          let steps =
          subst (λ (l : ℕ). BelowSteps stands first middle
          (below (hierarchy_of rule (system core old)) core.pinned sets (Read l)))
          at (reads sets for) in
          record { cost = omega (arith, steps.cost); next = steps.next })

      pub reads_both : (second cycles : ℕ) (last : L2Contents P) → count ≡ 2
          → second ≡ slice_index array 1 / middle.line_size
          → hierarchy_of rule (system core middle) ≡ hierarchy_of rule (system core old)
          → ((sets : Sets) → StandsFor stands middle.cache sets
          → BelowSteps stands cycles last (below (hierarchy_of rule (system core middle)) core.pinned sets (Read second)))
          → Come (first + cycles) last (take count array)
      unfolding below_all lines_of
      reads_both second cycles last is then same reads_again =
          subst (Come (first + cycles) last) (both_of count array long is) (λ sets for.
          let h : Hierarchy = hierarchy_of rule (system core old) in
          let steps = subst (λ (l : ℕ). BelowSteps stands first middle (below h core.pinned sets (Read l))) at (reads sets for) in
          let sets_too : Sets = (below h core.pinned sets (Read (slice_index array 0 / old.line_size))).l2 in
          let where_then : second ≡ slice_index array 1 / old.line_size =
          then ∙ ap (λ (k : Hierarchy). slice_index array 1 / k.line_size) same in
          let steps_too = subst₂ (λ (k : Hierarchy) (l : ℕ). BelowSteps stands cycles last (below k core.pinned sets_too (Read l)))
          same where_then (reads_again sets_too steps.next) in
          record { cost = omega (arith, steps.cost, steps_too.cost); next = steps_too.next })
