-- Reads of a line at the second level: of one that counts as always there, of one that it holds, and of one that it doesn't.
use Rattle.std.proofs.Common.{arith, ◌≡◌, ◌∙◌, sym, refl, ap, ap₂, subst, ℕ, ◌+◌, Bool, true, false, ◌&&◌, List, Option, Some, None}
use Rattle.std.specs.Prelude.{if◌then◌else◌, is_some}
use Rattle.set_cache.specs.Rule.{Rule}
use Rattle.set_cache.specs.declared.Touch.{Touch}
use Rattle.set_cache.specs.Cache.{Shape, Sets, CacheStep, touch_of}
use Rattle.set_cache.specs.Contents.{StandsFor, SameShape}
use Rattle.set_cache.specs.Lines.{place_in}
use Rattle.set_cache.specs.Calls.{IsTouch, TellsHit}
use Rattle.l2_colour.specs.Contents.{L2Contents}
use Rattle.mem_system.specs.Hierarchy.{Hierarchy}
use Rattle.mem_system.specs.Cost.{Read, is_pinned, below, below_if, below_by, missed_cost}
use Rattle.mem_system.specs.Contents.{CoreContents, BelowSteps, hierarchy_of, system}
use Rattle.mem_system.proofs.Accesses.{same_shape}

module _ {P : Type 0} (takes : P → ℕ → Type 0) (rule : P → ℕ → Rule) (stands : P → ℕ → ℕ → List ℕ → Type 0)
    (core : CoreContents P) (old : L2Contents P) (line : ℕ) (pinned : Bool)
    (tells_pinned : pinned ≡ is_pinned (hierarchy_of rule (system core old)) core.pinned line) where
  pub read_pinned : pinned ≡ true
      → (sets : Sets) → StandsFor stands old.cache sets
      → BelowSteps stands core.costs.l2 old (below (hierarchy_of rule (system core old)) core.pinned sets (Read line))
  unfolding below below_if
  read_pinned counts sets for =
      subst (λ (b : Bool). BelowSteps stands core.costs.l2 old (below_if b (hierarchy_of rule (system core old)) sets line))
      (sym counts ∙ tells_pinned)
      (record { cost = refl; next = for })

  pub read_held : (new : L2Contents P) → TellsHit takes rule stands true line old.cache new.cache
      → pinned ≡ false
      → (sets : Sets) → StandsFor stands old.cache sets
      → BelowSteps stands core.costs.l2 new (below (hierarchy_of rule (system core old)) core.pinned sets (Read line))
  unfolding below below_if below_by
  read_held new tells counts sets for =
      let h : Hierarchy = hierarchy_of rule (system core old) in
      let step : CacheStep = touch_of h.l2 sets line false in
      let told = tells.touch.step sets for in
      let hits : step.answer.hit ≡ true = ap (λ (t : Touch). t.hit) (sym told.answered) ∙ sym tells.told in
      let cost : h.costs.l2 + (if step.answer.hit then 0 else missed_cost h step.answer.dirty_victim) ≡ h.costs.l2 + 0 =
      ap (λ (hit : Bool). h.costs.l2 + (if hit then 0 else missed_cost h step.answer.dirty_victim)) hits in
      subst (λ (b : Bool). BelowSteps stands core.costs.l2 new (below_if b h sets line)) (sym counts ∙ tells_pinned)
      (record { cost = omega (arith, cost); next = told.next })

-- what keeps the second level's shape keeps the hierarchy
pub same_hierarchy : {P : Type 0} (rule : P → ℕ → Rule) (core : CoreContents P) (old new : L2Contents P)
    → new.line_size ≡ old.line_size
    → new.back ≡ old.back → SameShape old.cache new.cache → hierarchy_of rule (system core new) ≡ hierarchy_of rule (system core old)
same_hierarchy rule core old new size back shape =
    ap₂ (λ (n : ℕ) (b : Bool). record (hierarchy_of rule (system core new)) { line_size = n; back = b }) size back
    ∙ ap (λ (s : Shape). record (hierarchy_of rule (system core old)) { l2 = s }) (same_shape rule old.cache new.cache shape)

no_place : (o : Option ℕ) → is_some o ≡ false → o ≡ None
no_place None e = refl
no_place (Some place) e = absurd (cc e)

-- what a look-up missed isn't there afterwards
pub still_absent : {P : Type 0} (old new : L2Contents P) (line : ℕ) (found : Bool)
    → found ≡ is_some (place_in old.cache line)
    → found ≡ false → new ≡ old → place_in new.cache line ≡ None
still_absent old new line found told missed same =
    ap (λ (k : L2Contents _). place_in k.cache line) same ∙ no_place (place_in old.cache line) (sym told ∙ missed)

-- and the line counts as always there as little as before
pub still_counts : {P : Type 0} (rule : P → ℕ → Rule) (core : CoreContents P) (old new : L2Contents P)
    (line : ℕ) (pinned : Bool)
    → pinned ≡ is_pinned (hierarchy_of rule (system core old)) core.pinned line → pinned ≡ false → new ≡ old
    → is_pinned (hierarchy_of rule (system core new)) core.pinned line ≡ false
still_counts rule core old new line pinned told counts same =
    ap (λ (k : L2Contents _). is_pinned (hierarchy_of rule (system core k)) core.pinned line) same ∙ (sym told ∙ counts)

-- no victim is dirty where none is written back
both_of : (back dirty : Bool) → (back ≡ false → dirty ≡ false) → dirty ≡ (back && dirty)
both_of true dirty clean = refl
both_of false dirty clean = clean refl

module _ {P : Type 0} (takes : P → ℕ → Type 0) (rule : P → ℕ → Rule) (stands : P → ℕ → ℕ → List ℕ → Type 0)
    (core : CoreContents P) (old new : L2Contents P) (line : ℕ) (found : Touch)
    (touch : IsTouch takes rule stands found line false old.cache new.cache) (absent : place_in old.cache line ≡ None)
    (counts : is_pinned (hierarchy_of rule (system core old)) core.pinned line ≡ false)
    (clean : old.back ≡ false → found.dirty_victim ≡ false) where
  read_missed : (sets : Sets) → StandsFor stands old.cache sets
      → BelowSteps stands (core.costs.l2 + (core.costs.mem + (if found.dirty_victim then core.costs.wb else 0))) new
      (below (hierarchy_of rule (system core old)) core.pinned sets (Read line))
  unfolding below below_if below_by missed_cost
  read_missed sets for =
      let h : Hierarchy = hierarchy_of rule (system core old) in
      let step : CacheStep = touch_of h.l2 sets line false in
      let told = touch.step sets for in
      let misses : step.answer.hit ≡ false =
      ap (λ (t : Touch). t.hit) (sym told.answered) ∙ (touch.moves.hit ∙ ap is_some absent) in
      let dirty : found.dirty_victim ≡ (h.back && step.answer.dirty_victim) =
      both_of old.back found.dirty_victim clean ∙ ap (λ (t : Touch). old.back && t.dirty_victim) told.answered in
      subst (λ (b : Bool). BelowSteps stands (core.costs.l2 + (core.costs.mem + (if found.dirty_victim then core.costs.wb else 0))) new
      (below_if b h sets line)) (sym counts)
      (record {
        cost = ap₂ (λ (d hit : Bool). core.costs.l2 + (if hit then 0 else core.costs.mem + (if d then core.costs.wb else 0)))
            dirty (sym misses);
        next = told.next;
      })

  pub read_dirty : found.dirty_victim ≡ true → (sets : Sets) → StandsFor stands old.cache sets
      → BelowSteps stands (core.costs.l2 + core.costs.mem + core.costs.wb) new
      (below (hierarchy_of rule (system core old)) core.pinned sets (Read line))
  read_dirty is sets for =
      let steps = read_missed sets for in
      let wrote = ap (λ (d : Bool). if d then core.costs.wb else 0) is in
      record { cost = omega (arith, steps.cost, wrote); next = steps.next }

  pub read_clean : found.dirty_victim ≡ false → (sets : Sets) → StandsFor stands old.cache sets
      → BelowSteps stands (core.costs.l2 + core.costs.mem) new
      (below (hierarchy_of rule (system core old)) core.pinned sets (Read line))
  read_clean is sets for =
      let steps = read_missed sets for in
      let wrote = ap (λ (d : Bool). if d then core.costs.wb else 0) is in
      record { cost = omega (arith, steps.cost, wrote); next = steps.next }
