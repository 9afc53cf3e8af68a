-- Touches one after the other, in the definitions and in what calls make.
use Rattle.std.proofs.Common.{arith, ◌≡◌, ◌∙◌, sym, refl, ap, subst, ℕ, ◌+◌, zero-add, Bool, List, [], ◌∷◌, ◌++◌}
use Rattle.set_cache.specs.Rule.{Rule}
use Rattle.mem_system.specs.Hierarchy.{Hierarchy}
use Rattle.mem_system.specs.Cost.{Touch, Caches, Touched, touched, touched_all, and_then}
use Rattle.mem_system.specs.Contents.{SystemContents, SystemSteps, MakesTouch, MakesTouches, hierarchy_of}

and_then-assoc : (r : Touched) (f g : Caches → Touched)
    → and_then r (λ k. and_then (f k) g) ≡ and_then (and_then r f) g
unfolding and_then
and_then-assoc r f g = ap (λ (n : ℕ). record { cost = n; caches = (g (f r.caches).caches).caches }) (omega arith)

nothing_first : (r : Touched) → record { cost = 0 + r.cost; caches = r.caches } ≡ r
nothing_first r = ap (λ (n : ℕ). record { cost = n; caches = r.caches }) (zero-add r.cost)

-- touches after touches
pub touched_all-append : (h : Hierarchy) (pinned : Bool) (caches : Caches) (first second : List Touch)
    → touched_all h pinned caches (first ++ second) ≡ and_then (touched_all h pinned caches first) (λ k. touched_all h pinned k second)
unfolding touched_all and_then
touched_all-append h pinned caches [] second = sym (nothing_first (touched_all h pinned caches second))
touched_all-append h pinned caches (t ∷ ts) second =
    ap (λ (q : Touched). record { cost = (touched h pinned caches t).cost + q.cost; caches = q.caches })
    (touched_all-append h pinned (touched h pinned caches t).caches ts second)
    ∙ and_then-assoc (touched h pinned caches t) (λ k. touched_all h pinned k ts) (λ k. touched_all h pinned k second)

module _ {P : Type 0} (rule : P → ℕ → Rule) (stands : P → ℕ → ℕ → List ℕ → Type 0) where
  pub makes_none : (kept : SystemContents P) → MakesTouches rule stands [] 0 kept kept
  unfolding touched_all
  makes_none kept = record { same = refl; pinned = refl; steps = λ caches for. record { cost = refl; next = for } }

  pub makes_one : (touch : Touch) (cycles : ℕ) (old new : SystemContents P)
      → MakesTouch rule stands touch cycles old new
      → MakesTouches rule stands (touch ∷ []) cycles old new
  unfolding touched_all and_then
  makes_one touch cycles old new makes = record {
    same = makes.same;
    pinned = makes.pinned;
    steps = λ caches for.
        let step = makes.steps caches for in
        record { cost = omega (arith, step.cost); next = step.next };
  }

  pub makes_then : (first second : List Touch) (a b : ℕ) (old middle new : SystemContents P)
      → MakesTouches rule stands first a old middle → MakesTouches rule stands second b middle new
      → MakesTouches rule stands (first ++ second) (a + b) old new
  unfolding and_then
  makes_then first second a b old middle new one two = record {
    same = two.same ∙ one.same;
    pinned = two.pinned ∙ one.pinned;
    steps = λ caches for.
        let h : Hierarchy = hierarchy_of rule old in
        let pinned : Bool = old.core.pinned in
        let step = one.steps caches for in
        let between : Caches = (touched_all h pinned caches first).caches in
        let later : SystemSteps stands b new
        (touched_all (hierarchy_of rule middle) middle.core.pinned between second) =
        two.steps between step.next in
        let last : SystemSteps stands b new (touched_all h pinned between second) =
        subst (λ (k : Bool). SystemSteps stands b new (touched_all h k between second)) one.pinned
        (subst (λ (g : Hierarchy). SystemSteps stands b new (touched_all g middle.core.pinned between second)) one.same later) in
        subst (λ (t : Touched). SystemSteps stands (a + b) new t) (sym (touched_all-append h pinned caches first second))
        (record { cost = omega (arith, step.cost, last.cost); next = last.next });
  }
