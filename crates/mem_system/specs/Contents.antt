-- What the code keeps, the hierarchy that it is, and the caches that it stands for.
use Rattle.std.specs.Prelude.{◌≡◌, ℕ, Bool, List, Option, refl}
use Rattle.std.specs.Coded.{Coded, code_by, coded×, coded_ℕ, coded_bool, coded_list, coded_option}
use Rattle.set_cache.specs.Rule.{Rule}
use Rattle.set_cache.specs.Contents.{Contents, StandsFor, coded_contents, shape_of}
use Rattle.tlb_model.specs.Buffer.{Buffer, coded_buffer}
use Rattle.branch_pred.specs.Guesses.{Guesses, sizes_of}
use Rattle.branch_pred.specs.declared.Jump.{Jump}
use Rattle.l2_colour.specs.Contents.{L2Contents, coded_l2}
use Rattle.cycle_cost.specs.Costs.{CostTable, ProductCosts}
use Rattle.mem_system.specs.Hierarchy.{Hierarchy}
use Rattle.mem_system.specs.Cost.{Touch, Core, Caches, Touched, Below, touched, touched_all}

-- what one core has
pub record CoreContents (P : Type 0) : Type 0 where
  pub costs : CostTable
  pub products : Option ProductCosts
  pub pinned : Bool
  pub l1i : Contents P
  pub l1d : Contents P
  pub tlb : Buffer P
  pub guesses : Guesses

pub record SystemContents (P : Type 0) : Type 0 where
  pub core : CoreContents P
  pub l2 : L2Contents P

-- a core over a second level
abbrev pub system : {P : Type 0} → CoreContents P → L2Contents P → SystemContents P
system core l2 = record { core = core; l2 = l2 }

abbrev pub coded_costs : Coded CostTable
coded_costs =
    code_by (ℕ × (ℕ × (ℕ × (ℕ × (ℕ × (ℕ × (ℕ × (ℕ × ℕ))))))))
    (coded× coded_ℕ (coded× coded_ℕ (coded× coded_ℕ
    (coded× coded_ℕ (coded× coded_ℕ (coded× coded_ℕ (coded× coded_ℕ (coded× coded_ℕ coded_ℕ))))))))
    (λ c. (c.base, (c.l1, (c.l2, (c.mem, (c.wb, (c.tlb, (c.mispredict, (c.trap, c.flush)))))))))
    (λ t. record {
      base = t.0;
      l1 = t.1.0;
      l2 = t.1.1.0;
      mem = t.1.1.1.0;
      wb = t.1.1.1.1.0;
      tlb = t.1.1.1.1.1.0;
      mispredict = t.1.1.1.1.1.1.0;
      trap = t.1.1.1.1.1.1.1.0;
      flush = t.1.1.1.1.1.1.1.1;
    })
    (λ _. refl)

abbrev pub coded_products : Coded ProductCosts
coded_products =
    code_by (ℕ × ℕ) (coded× coded_ℕ coded_ℕ) (λ c. (c.mul, c.div)) (λ t. record { mul = t.0; div = t.1 })
    (λ _. refl)

abbrev pub coded_jump : Coded Jump
coded_jump =
    code_by (ℕ × ℕ) (coded× coded_ℕ coded_ℕ) (λ j. (j.pc, j.target)) (λ t. record { pc = t.0; target = t.1 })
    (λ _. refl)

abbrev pub coded_guesses : Coded Guesses
coded_guesses =
    code_by (List ℕ × (ℕ × (ℕ × List (Option Jump))))
    (coded× (coded_list coded_ℕ) (coded× coded_ℕ (coded× coded_ℕ (coded_list (coded_option coded_jump)))))
    (λ g. (g.counters, (g.outcomes, (g.history, g.targets))))
    (λ t. record { counters = t.0; outcomes = t.1.0; history = t.1.1.0; targets = t.1.1.1 })
    (λ _. refl)

abbrev pub coded_core : {P : Type 0} → Coded P → Coded (CoreContents P)
coded_core {P} p =
    code_by (CostTable × (Option ProductCosts × (Bool × (Contents P × (Contents P × (Buffer P × Guesses))))))
    (coded× coded_costs (coded× (coded_option coded_products) (coded× coded_bool
    (coded× (coded_contents p) (coded× (coded_contents p) (coded× (coded_buffer p) coded_guesses))))))
    (λ c. (c.costs, (c.products, (c.pinned, (c.l1i, (c.l1d, (c.tlb, c.guesses)))))))
    (λ t. record {
      costs = t.0;
      products = t.1.0;
      pinned = t.1.1.0;
      l1i = t.1.1.1.0;
      l1d = t.1.1.1.1.0;
      tlb = t.1.1.1.1.1.0;
      guesses = t.1.1.1.1.1.1;
    })
    (λ _. refl)

abbrev pub coded_system : {P : Type 0} → Coded P → Coded (SystemContents P)
coded_system {P} p =
    code_by (CoreContents P × L2Contents P) (coded× (coded_core p) (coded_l2 p)) (λ s. (s.core, s.l2))
    (λ t. record { core = t.0; l2 = t.1 }) (λ _. refl)

-- the hierarchy that it is, by the policies' rules
abbrev pub hierarchy_of : {P : Type 0} → (P → ℕ → Rule) → SystemContents P → Hierarchy
hierarchy_of rule s = record {
  costs = s.core.costs;
  products = s.core.products;
  line_size = s.l2.line_size;
  back = s.l2.back;
  predictor = sizes_of s.core.guesses;
  l1i = shape_of rule s.core.l1i;
  l1d = shape_of rule s.core.l1d;
  l2 = shape_of rule s.l2.cache;
  tlb = shape_of rule s.core.tlb.pages;
}

-- ---- the caches that it stands for

-- on-core state, set by set; the buffer by its pages alone
pub record CoreStands {P : Type 0} (stands : P → ℕ → ℕ → List ℕ → Type 0) (kept : CoreContents P)
    (core : Core) : Type 0 where
  pub l1i : StandsFor stands kept.l1i core.l1i
  pub l1d : StandsFor stands kept.l1d core.l1d
  pub tlb : StandsFor stands kept.tlb.pages core.tlb
  pub guesses : kept.guesses ≡ core.guesses

pub record SystemStands {P : Type 0} (stands : P → ℕ → ℕ → List ℕ → Type 0) (kept : SystemContents P)
    (caches : Caches) : Type 0 where
  pub core : CoreStands stands kept.core caches.core
  pub l2 : StandsFor stands kept.l2.cache caches.l2

-- ---- what calls promise

-- the cycles are the definition's, and what is kept stands for the second level that it leaves
pub record BelowSteps {P : Type 0} (stands : P → ℕ → ℕ → List ℕ → Type 0) (cycles : ℕ) (kept : L2Contents P)
    (below : Below) : Type 0 where
  pub cost : cycles ≡ below.cost
  pub next : StandsFor stands kept.cache below.l2

-- the same of all caches
pub record SystemSteps {P : Type 0} (stands : P → ℕ → ℕ → List ℕ → Type 0) (cycles : ℕ)
    (kept : SystemContents P) (touched : Touched) : Type 0 where
  pub cost : cycles ≡ touched.cost
  pub next : SystemStands stands kept touched.caches

-- a call made a touch: the hierarchy stays, and for all caches that the old system stands for the cycles are the touch's,
-- and the new system stands for the caches that it leaves
pub record MakesTouch {P : Type 0} (rule : P → ℕ → Rule) (stands : P → ℕ → ℕ → List ℕ → Type 0)
    (touch : Touch) (cycles : ℕ)
    (old new : SystemContents P) : Type 0 where
  pub same : hierarchy_of rule new ≡ hierarchy_of rule old
  pub pinned : new.core.pinned ≡ old.core.pinned
  pub steps : (caches : Caches) → SystemStands stands old caches
      → SystemSteps stands cycles new (touched (hierarchy_of rule old) old.core.pinned caches touch)

-- the same of touches one after the other
pub record MakesTouches {P : Type 0} (rule : P → ℕ → Rule) (stands : P → ℕ → ℕ → List ℕ → Type 0)
    (touches : List Touch) (cycles : ℕ)
    (old new : SystemContents P) : Type 0 where
  pub same : hierarchy_of rule new ≡ hierarchy_of rule old
  pub pinned : new.core.pinned ≡ old.core.pinned
  pub steps : (caches : Caches) → SystemStands stands old caches
      → SystemSteps stands cycles new (touched_all (hierarchy_of rule old) old.core.pinned caches touches)
