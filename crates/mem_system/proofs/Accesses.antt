-- Accesses that the first level holds, and those that it doesn't: what is given up is written back, and then the line is read.
use Rattle.std.proofs.Common.{arith, ◌≡◌, ◌∙◌, sym, refl, ap, subst, subst₂, ℕ, ◌+◌, Bool, true, false, List, [], ◌∷◌, ◌++◌, Option, Some, None}
use Rattle.std.specs.Prelude.{if◌then◌else◌}
use Rattle.set_cache.specs.Rule.{Rule}
use Rattle.set_cache.specs.declared.Touch.{Touch}
use Rattle.set_cache.specs.Cache.{Shape, Sets, CacheStep, touch_of}
use Rattle.set_cache.specs.Contents.{Contents, StandsFor, SameShape, shape_of}
use Rattle.set_cache.specs.Calls.{IsTouch}
use Rattle.l2_colour.specs.Contents.{L2Contents}
use Rattle.mem_system.specs.Hierarchy.{Hierarchy}
use Rattle.mem_system.specs.Cost.{Core, PassedOn, Passed, Load, Store, Read, given_up, unless_hit, on_core, accessed, below, below_all, pass_on, touched}
use Rattle.mem_system.specs.Contents.{CoreContents, BelowSteps, SystemSteps, MakesTouch, hierarchy_of, system}

-- loads and stores are one access, by its mark
access_of : (h : Hierarchy) (core : Core) (line : ℕ) (store : Bool)
    → on_core h core (if store then Store line else Load line) ≡ accessed h core line (touch_of h.l1d core.l1d line store)
unfolding on_core
access_of h core line true = refl
access_of h core line false = refl

module _ (h : Hierarchy) (pinned : Bool) (sets : Sets) (line : ℕ) where
  -- what the second level does where a line is read after what is given up
  read_cost : (victim : Option ℕ) (dirty : Bool)
      → (below_all h pinned sets (given_up victim dirty ++ Read line ∷ [])).cost
      ≡ (below_all h pinned sets (given_up victim dirty)).cost
      + (below h pinned (below_all h pinned sets (given_up victim dirty)).l2 (Read line)).cost
  unfolding below_all
  read_cost (Some victim) true = omega arith
  read_cost (Some victim) false = omega arith
  read_cost None dirty = omega arith

  read_next : (victim : Option ℕ) (dirty : Bool)
      → (below_all h pinned sets (given_up victim dirty ++ Read line ∷ [])).l2
      ≡ (below h pinned (below_all h pinned sets (given_up victim dirty)).l2 (Read line)).l2
  unfolding below_all
  read_next (Some victim) true = refl
  read_next (Some victim) false = refl
  read_next None dirty = refl

pub same_shape : {P : Type 0} (rule : P → ℕ → Rule) (old new : Contents P) → SameShape old new
    → shape_of rule new ≡ shape_of rule old
same_shape rule old new same = rw (same.same_policy, same.same_ways, same.same_sets) refl

-- an access whose line is held
pub access_held : {P : Type 0} (takes : P → ℕ → Type 0) (rule : P → ℕ → Rule)
    (stands : P → ℕ → ℕ → List ℕ → Type 0)
    (line : ℕ) (store : Bool) (old : CoreContents P) (l1d : Contents P) (l2 : L2Contents P) (found : Touch)
    → IsTouch takes rule stands found line store old.l1d l1d
    → found.hit ≡ true
    → MakesTouch rule stands (if store then Store line else Load line) old.costs.l1 (system old l2) (system (record old { l1d = l1d }) l2)
unfolding touched pass_on accessed below_all
access_held takes rule stands line store old l1d l2 found touch here =
    let h : Hierarchy = hierarchy_of rule (system old l2) in
    let spared : found.victim ≡ None = touch.moves.spares here in
    let clean : found.dirty_victim ≡ false = touch.marks.clean spared in
    record {
      same = ap (λ (s : Shape). record h { l1d = s }) (same_shape rule old.l1d l1d touch.shape);
      pinned = refl;
      steps = λ caches for.
          let step : CacheStep = touch_of h.l1d caches.core.l1d line store in
          let told = touch.step caches.core.l1d for.core.l1d in
          let done : Option ℕ → Bool → Bool → PassedOn = λ victim dirty hit. record {
            cost = h.costs.l1 + (if dirty then h.costs.wb else 0);
            core = record caches.core { l1d = step.next };
            passed = given_up victim dirty ++ unless_hit hit line;
          } in
          let held : done None false true ≡ accessed h caches.core line step =
          ap (λ (hit : Bool). done None false hit) (sym here)
          ∙ ap (λ (dirty : Bool). done None dirty found.hit) (sym clean)
          ∙ ap (λ (victim : Option ℕ). done victim found.dirty_victim found.hit) (sym spared)
          ∙ ap (λ (t : Touch). done t.victim t.dirty_victim t.hit) told.answered in
          subst (λ (p : PassedOn). SystemSteps stands old.costs.l1 (system (record old { l1d = l1d }) l2)
          (pass_on h old.pinned caches.l2 p))
          (held ∙ sym (access_of h caches.core line store))
          (record {
            cost = omega arith;
            next = record {
              core = record { l1i = for.core.l1i; l1d = told.next; tlb = for.core.tlb; guesses = for.core.guesses };
              l2 = for.l2;
            };
          });
    }

-- an access whose line isn't held, of which `found` is told
pub access_missed : {P : Type 0} (takes : P → ℕ → Type 0) (rule : P → ℕ → Rule)
    (stands : P → ℕ → ℕ → List ℕ → Type 0)
    (line : ℕ) (store : Bool) (old : CoreContents P) (l1d : Contents P) (l2 middle last : L2Contents P) (found : Touch) (given read : ℕ)
    → IsTouch takes rule stands found line store old.l1d l1d
    → found.hit ≡ false
    → given ≡ (if found.dirty_victim then old.costs.wb else 0)
    → hierarchy_of rule (system (record old { l1d = l1d }) middle) ≡ hierarchy_of rule (system (record old { l1d = l1d }) l2)
    → ((sets : Sets) → StandsFor stands l2.cache sets
    → BelowSteps stands 0 middle (below_all (hierarchy_of rule (system (record old { l1d = l1d }) l2)) old.pinned sets
    (given_up found.victim found.dirty_victim)))
    → hierarchy_of rule (system (record old { l1d = l1d }) last) ≡ hierarchy_of rule (system (record old { l1d = l1d }) middle)
    → ((sets : Sets) → StandsFor stands middle.cache sets
    → BelowSteps stands read last (below (hierarchy_of rule (system (record old { l1d = l1d }) middle)) old.pinned sets (Read line)))
    → MakesTouch rule stands (if store then Store line else Load line) (old.costs.l1 + given + read)
    (system old l2) (system (record old { l1d = l1d }) last)
unfolding touched pass_on accessed
access_missed takes rule stands line store old l1d l2 middle last found given read touch missed given_is same_given gives same_read reads =
    let h : Hierarchy = hierarchy_of rule (system old l2) in
    let same : hierarchy_of rule (system (record old { l1d = l1d }) l2) ≡ h =
    ap (λ (s : Shape). record h { l1d = s }) (same_shape rule old.l1d l1d touch.shape) in
    record {
      same = same_read ∙ same_given ∙ same;
      pinned = refl;
      steps = λ caches for.
          let step : CacheStep = touch_of h.l1d caches.core.l1d line store in
          let told = touch.step caches.core.l1d for.core.l1d in
          let first = below_all h old.pinned caches.l2 (given_up step.answer.victim step.answer.dirty_victim) in
          let gave : BelowSteps stands 0 middle first =
          subst₂ (λ (k : Hierarchy) (t : Touch). BelowSteps stands 0 middle
          (below_all k old.pinned caches.l2 (given_up t.victim t.dirty_victim)))
          same told.answered (gives caches.l2 for.l2) in
          let was_read : BelowSteps stands read last (below h old.pinned first.l2 (Read line)) =
          subst (λ (k : Hierarchy). BelowSteps stands read last (below k old.pinned first.l2 (Read line)))
          (same_given ∙ same) (reads first.l2 gave.next) in
          let wrote : given ≡ (if step.answer.dirty_victim then h.costs.wb else 0) =
          subst (λ (t : Touch). given ≡ (if t.dirty_victim then h.costs.wb else 0)) told.answered given_is in
          let passed : given_up step.answer.victim step.answer.dirty_victim ++ unless_hit step.answer.hit line
          ≡ given_up step.answer.victim step.answer.dirty_victim ++ Read line ∷ [] =
          ap (λ (hit : Bool). given_up step.answer.victim step.answer.dirty_victim ++ unless_hit hit line)
          (ap (λ (t : Touch). t.hit) (sym told.answered) ∙ missed) in
          let total = ap (λ (ps : List Passed). (below_all h old.pinned caches.l2 ps).cost) passed
          ∙ read_cost h old.pinned caches.l2 line step.answer.victim step.answer.dirty_victim in
          let ends = ap (λ (ps : List Passed). (below_all h old.pinned caches.l2 ps).l2) passed
          ∙ read_next h old.pinned caches.l2 line step.answer.victim step.answer.dirty_victim in
          subst (λ (p : PassedOn). SystemSteps stands (old.costs.l1 + given + read) (system (record old { l1d = l1d }) last)
          (pass_on h old.pinned caches.l2 p))
          (sym (access_of h caches.core line store))
          (record {
            cost = omega (arith, wrote, total, gave.cost, was_read.cost);
            next = record {
              core = record { l1i = for.core.l1i; l1d = told.next; tlb = for.core.tlb; guesses = for.core.guesses };
              l2 = subst (StandsFor stands last.cache) (sym ends) was_read.next;
            };
          });
    }
