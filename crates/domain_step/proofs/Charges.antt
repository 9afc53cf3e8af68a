-- The cost so far, one part of the touches after another, and what calls of the hierarchy make of it.
use Rattle.std.proofs.Common.{◌≡◌, ℕ, ◌+◌, Bool, List, [], ◌∷◌, ◌++◌, refl, sym, ap, subst, ◌∙◌, arith}
use Rattle.phys_mem.specs.Contents.{Contents}
use Rattle.set_cache.specs.Rule.{Rule}
use Rattle.cap_table.specs.Slots.{Slots}
use Rattle.mem_system.specs.Hierarchy.{Hierarchy}
use Rattle.mem_system.specs.Cost.{Touch, Caches, Touched, at_no_cost, and_then, touched, touched_all}
use Rattle.mem_system.specs.Contents.{SystemContents, SystemSteps, MakesTouch, MakesTouches, hierarchy_of}
use Rattle.mem_system.specs.Translation.{KeepsLeaves}
use Rattle.mem_system.proofs.Touches.{makes_one}
use Rattle.world_view.specs.Event.{Storage}
use Rattle.world_view.specs.Machine.{Setting}
use Rattle.domain_step.specs.Kept.{Fits, charged, after, Kept}

module _ (w : Setting) where
  pub after-append : (r : Touched) (ts us : List Touch) → after w r (ts ++ us) ≡ after w (after w r ts) us
  unfolding after
  after-append r [] us = refl
  after-append r (t ∷ ts) us = after-append (charged w r t) ts us

  sum : (a b c : ℕ) → a + b + c ≡ a + (b + c)
  sum a b c = omega arith

  nothing_more : (n : ℕ) → n ≡ n + 0
  nothing_more n = omega arith

  -- the sum that is paid in the end
  pub after-all : (r : Touched) (ts : List Touch)
      → after w r ts ≡ and_then r (λ c. touched_all w.levels w.pinned c ts)
  unfolding after charged touched_all and_then
  after-all r [] = ap (λ n. record { cost = n; caches = r.caches }) (nothing_more r.cost)
  after-all r (t ∷ ts) =
      let one = touched w.levels w.pinned r.caches t in
      let rest = touched_all w.levels w.pinned one.caches ts in
      after-all (charged w r t) ts ∙ ap (λ n. record { cost = n; caches = rest.caches }) (sum r.cost one.cost rest.cost)

  -- from nothing spent it is all that the touches cost
  pub owed : (c : Caches) (ts : List Touch) → after w (at_no_cost c) ts ≡ touched_all w.levels w.pinned c ts
  unfolding and_then
  owed c ts =
      let q = touched_all w.levels w.pinned c ts in
      let all : 0 + q.cost ≡ q.cost = omega arith in
      after-all (at_no_cost c) ts ∙ ap (λ n. record { cost = n; caches = q.caches }) all

-- what the machine costs is what the code's hierarchy costs
pub same_costs : {P : Type 0} (rule : P → ℕ → Rule) (w : Setting) (memory : Contents)
    (system : SystemContents P) → Fits rule w memory system
    → w.machine.costs ≡ system.core.costs
same_costs rule w memory system fits = fits.sound.costs ∙ ap (λ (h : Hierarchy). h.costs) fits.levels

module _ {P : Type 0} (rule : P → ℕ → Rule) (stands : P → ℕ → ℕ → List ℕ → Type 0) (w : Setting)
    (memory : Contents) (old new : SystemContents P) where
  -- touches leave the hierarchy that of the machine
  pub fits_still : (ts : List Touch) (cycles : ℕ) → MakesTouches rule stands ts cycles old new
      → Fits rule w memory old → Fits rule w memory new
  fits_still ts cycles makes fits = record {
    kernel = fits.kernel;
    sound = fits.sound;
    frames = fits.frames;
    levels = fits.levels ∙ sym makes.same;
    pinned = makes.pinned ∙ fits.pinned;
  }

  -- what they cost in the machine, and the caches that they leave there
  pub steps_there : (ts : List Touch) (cycles : ℕ) (caches : Caches)
      → MakesTouches rule stands ts cycles old new → Fits rule w memory old
      → SystemSteps stands cycles new (touched_all (hierarchy_of rule old) old.core.pinned caches ts)
      → SystemSteps stands cycles new (touched_all w.levels w.pinned caches ts)
  steps_there ts cycles caches makes fits steps =
      subst (λ (h : Hierarchy). SystemSteps stands cycles new (touched_all h w.pinned caches ts)) (sym fits.levels)
      (subst (λ (b : Bool). SystemSteps stands cycles new (touched_all (hierarchy_of rule old) b caches ts)) fits.pinned steps)

  -- with the cycles spent before them, they are the cost so far
  pub touches_paid : (ts : List Touch) (spent spent' cycles : ℕ) (r : Touched)
      → MakesTouches rule stands ts cycles old new → Fits rule w memory old
      → SystemSteps stands spent old r → spent' ≡ spent + cycles → SystemSteps stands spent' new (after w r ts)
  unfolding and_then
  touches_paid ts spent spent' cycles r makes fits before more =
      let steps = steps_there ts cycles r.caches makes fits (makes.steps r.caches before.next) in
      subst (SystemSteps stands spent' new) (sym (after-all w r ts))
      (record { cost = omega (arith, more, before.cost, steps.cost); next = steps.next })

  -- and the code keeps what it kept
  pub touch_kept : (t : Touch) (caps : Slots) (root spent spent' cycles : ℕ) (s : Storage) (r : Touched)
      → MakesTouch rule stands t cycles old new
      → spent' ≡ spent + cycles → KeepsLeaves s.mem memory.frames root new.core.tlb
      → Kept rule stands w caps root memory old spent s r → Kept rule stands w caps root memory new spent' s (charged w r t)
  unfolding after
  touch_kept t caps root spent spent' cycles s r makes more leaves k =
      let all : MakesTouches rule stands (t ∷ []) cycles old new = makes_one rule stands t cycles old new makes in
      let paid = touches_paid (t ∷ []) spent spent' cycles r all k.fits (record { cost = k.cost; next = k.caches }) more in
      record {
        fits = fits_still (t ∷ []) cycles all k.fits;
        tables = k.tables;
        slots = k.slots;
        holds = k.holds;
        facts = k.facts;
        leaves = leaves;
        cost = paid.cost;
        caches = paid.next;
      }
