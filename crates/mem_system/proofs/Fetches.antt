-- Fetches: of a line that the first level holds, and of one that is read at the second.
use Rattle.std.proofs.Common.{arith, ◌≡◌, ◌∙◌, sym, refl, ap, subst, ℕ, ◌+◌, Bool, true, false, List}
use Rattle.set_cache.specs.Rule.{Rule}
use Rattle.set_cache.specs.declared.Touch.{Touch}
use Rattle.set_cache.specs.Cache.{Shape, Sets, CacheStep, touch_of}
use Rattle.set_cache.specs.Contents.{Contents, StandsFor}
use Rattle.set_cache.specs.Calls.{TellsHit}
use Rattle.l2_colour.specs.Contents.{L2Contents}
use Rattle.mem_system.specs.Hierarchy.{Hierarchy}
use Rattle.mem_system.specs.Cost.{Fetch, Read, unless_hit, on_core, fetched, below, below_all, pass_on, touched}
use Rattle.mem_system.specs.Contents.{CoreContents, BelowSteps, SystemSteps, MakesTouch, hierarchy_of, system}
use Rattle.mem_system.proofs.Accesses.{same_shape}

module _ {P : Type 0} (takes : P → ℕ → Type 0) (rule : P → ℕ → Rule) (stands : P → ℕ → ℕ → List ℕ → Type 0)
    (line : ℕ) (old : CoreContents P) (l1i : Contents P) (l2 : L2Contents P) (hit : Bool)
    (tells : TellsHit takes rule stands hit line old.l1i l1i) where
  same_after : hierarchy_of rule (system (record old { l1i = l1i }) l2) ≡ hierarchy_of rule (system old l2)
  same_after = ap (λ (s : Shape). record (hierarchy_of rule (system old l2)) { l1i = s }) (same_shape rule old.l1i l1i tells.touch.shape)

  pub fetch_held : hit ≡ true
      → MakesTouch rule stands (Fetch line) old.costs.l1 (system old l2)
      (system (record old { l1i = l1i }) l2)
  unfolding touched pass_on on_core fetched below_all
  fetch_held here = record {
    same = same_after;
    pinned = refl;
    steps = λ caches for.
        let h : Hierarchy = hierarchy_of rule (system old l2) in
        let step : CacheStep = touch_of h.l1i caches.core.l1i line false in
        let told = tells.touch.step caches.core.l1i for.core.l1i in
        let hits : step.answer.hit ≡ true = ap (λ (t : Touch). t.hit) (sym told.answered) ∙ (sym tells.told ∙ here) in
        subst (λ (b : Bool). SystemSteps stands old.costs.l1 (system (record old { l1i = l1i }) l2)
        (pass_on h old.pinned caches.l2
        (record {
          cost = h.costs.l1;
          core = record caches.core { l1i = step.next };
          passed = unless_hit b line;
        })))
        (sym hits)
        (record {
          cost = omega arith;
          next = record {
            core = record { l1i = told.next; l1d = for.core.l1d; tlb = for.core.tlb; guesses = for.core.guesses };
            l2 = for.l2;
          };
        });
  }

  pub fetch_missed : (last : L2Contents P) (read : ℕ) → hit ≡ false
      → hierarchy_of rule (system (record old { l1i = l1i }) last) ≡ hierarchy_of rule (system (record old { l1i = l1i }) l2)
      → ((sets : Sets) → StandsFor stands l2.cache sets
      → BelowSteps stands read last (below (hierarchy_of rule (system (record old { l1i = l1i }) l2)) old.pinned sets (Read line)))
      → MakesTouch rule stands (Fetch line) (old.costs.l1 + read) (system old l2) (system (record old { l1i = l1i }) last)
  unfolding touched pass_on on_core fetched below_all
  fetch_missed last read missed same_read reads = record {
    same = same_read ∙ same_after;
    pinned = refl;
    steps = λ caches for.
        let h : Hierarchy = hierarchy_of rule (system old l2) in
        let step : CacheStep = touch_of h.l1i caches.core.l1i line false in
        let told = tells.touch.step caches.core.l1i for.core.l1i in
        let misses : step.answer.hit ≡ false = ap (λ (t : Touch). t.hit) (sym told.answered) ∙ (sym tells.told ∙ missed) in
        let was_read : BelowSteps stands read last (below h old.pinned caches.l2 (Read line)) =
        subst (λ (k : Hierarchy). BelowSteps stands read last (below k old.pinned caches.l2 (Read line))) same_after
        (reads caches.l2 for.l2) in
        subst (λ (b : Bool). SystemSteps stands (old.costs.l1 + read) (system (record old { l1i = l1i }) last)
        (pass_on h old.pinned caches.l2
        (record {
          cost = h.costs.l1;
          core = record caches.core { l1i = step.next };
          passed = unless_hit b line;
        })))
        (sym misses)
        (record {
          cost = omega (arith, was_read.cost);
          next = record {
            core = record { l1i = told.next; l1d = for.core.l1d; tlb = for.core.tlb; guesses = for.core.guesses };
            l2 = was_read.next;
          };
        });
  }
