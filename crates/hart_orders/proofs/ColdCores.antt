-- A core with nothing in it, over a second level with nothing in it.
use Rattle.std.proofs.Common.{◌≡◌, ◌∙◌, ℕ, Bool, false, Option, None, option_map, refl, ap, ap₂, subst}
use Rattle.std.proofs.lemmas.List.{length-replicate}
use Rattle.tp_base.specs.Table.{empty}
use Rattle.set_cache.specs.Cache.{Shape}
use Rattle.set_cache.specs.Contents.{shape_of}
use Rattle.repl_policy.specs.declared.AnyPolicy.{AnyPolicy}
use Rattle.repl_policy.specs.Members.{any_rule, any_stands_for}
use Rattle.l2_colour.specs.Contents.{L2Contents}
use Rattle.branch_pred.specs.declared.Sizes.{Sizes}
use Rattle.branch_pred.specs.Guesses.{fresh_guesses, sizes_of}
use Rattle.cycle_cost.specs.declared.Costs.{Costs}
use Rattle.cycle_cost.specs.declared.ProductCosts.{ProductCosts}
use Rattle.cycle_cost.specs.Costs as spec
use Rattle.mem_system.specs.Hierarchy.{Hierarchy}
use Rattle.mem_system.specs.declared.geometry.Geometry.{Geometry}
use Rattle.mem_system.specs.Geometry.{costs_of, product_costs_of, shape_by, hierarchy_by}
use Rattle.mem_system.specs.Cost.{cold, fresh_core}
use Rattle.mem_system.specs.Contents.{CoreContents, CoreStands, system, hierarchy_of}
use Rattle.hart_orders.specs.Cold.{IsColdL2, IsColdHart}

fresh_sizes : (s : Sizes) → sizes_of (fresh_guesses s) ≡ s
fresh_sizes s =
    ap₂ (λ (n m : ℕ). record { counters = n; history = s.history; targets = m })
    (length-replicate s.counters 1) (length-replicate s.targets None)

module _ (g : Geometry AnyPolicy) (costs : Costs) (products : Option ProductCosts) (h : Hierarchy)
    (is : hierarchy_by any_rule g costs products ≡ h)
    (l2 : L2Contents AnyPolicy) (below : IsColdL2 h l2) where
  -- what a new core of these sizes is
  pub record IsNewCore (core : CoreContents AnyPolicy) : Type 0 where
    pub costs_are : core.costs ≡ costs_of costs
    pub products_are : core.products ≡ option_map product_costs_of products
    pub pinned : core.pinned ≡ false
    pub l1i : shape_of any_rule core.l1i ≡ shape_by any_rule g.l1i
    pub l1d : shape_of any_rule core.l1d ≡ shape_by any_rule g.l1d
    pub tlb : shape_of any_rule core.tlb.pages ≡ shape_by any_rule g.tlb
    pub fresh : CoreStands any_stands_for core
        (record { l1i = empty; l1d = empty; tlb = empty; guesses = fresh_guesses g.predictor })

  module _ (core : CoreContents AnyPolicy) (new : IsNewCore core) where
    abbrev sizes : Sizes
    sizes = sizes_of core.guesses

    abbrev l1i : Shape
    l1i = shape_of any_rule core.l1i

    abbrev l1d : Shape
    l1d = shape_of any_rule core.l1d

    abbrev tlb : Shape
    tlb = shape_of any_rule core.tlb.pages

    -- by its core's parts
    abbrev made : spec.CostTable → Option spec.ProductCosts → Sizes → Shape → Shape → Shape → Hierarchy
    made c ps s i d t = record h { costs = c; products = ps; predictor = s; l1i = i; l1d = d; tlb = t }

    -- and by those of the second level
    abbrev over : ℕ → Bool → Shape → Hierarchy
    over n b l = record (made core.costs core.products sizes l1i l1d tlb) { line_size = n; back = b; l2 = l }

    sizes_are : sizes ≡ h.predictor
    sizes_are = ap sizes_of new.fresh.guesses ∙ fresh_sizes g.predictor ∙ ap (λ (q : Hierarchy). q.predictor) is

    levels : hierarchy_of any_rule (system core l2) ≡ h
    levels =
        ap₂ (λ (n : ℕ) (b : Bool). over n b (shape_of any_rule l2.cache)) below.line_size below.back
        ∙ ap (over h.line_size h.back) below.shape
        ∙ ap₂ (λ (c : spec.CostTable) (ps : Option spec.ProductCosts). made c ps sizes l1i l1d tlb)
        (new.costs_are ∙ ap (λ (q : Hierarchy). q.costs) is) (new.products_are ∙ ap (λ (q : Hierarchy). q.products) is)
        ∙ ap₂ (λ (s : Sizes) (i : Shape). made h.costs h.products s i l1d tlb) sizes_are (new.l1i ∙ ap (λ (q : Hierarchy). q.l1i) is)
        ∙ ap₂ (λ (d t : Shape). made h.costs h.products h.predictor h.l1i d t)
        (new.l1d ∙ ap (λ (q : Hierarchy). q.l1d) is) (new.tlb ∙ ap (λ (q : Hierarchy). q.tlb) is)

    pub cold_hart : IsColdHart h l2 (record { core = core; clock = 0; slots = 0; slot = None; ended = 0 })
    unfolding cold fresh_core
    cold_hart = record {
      levels = levels;
      pinned = new.pinned;
      caches = record {
        core =
            subst (λ (s : Sizes). CoreStands any_stands_for core
            (record { l1i = empty; l1d = empty; tlb = empty; guesses = fresh_guesses s }))
            (ap (λ (q : Hierarchy). q.predictor) is) new.fresh;
        l2 = below.fresh;
      };
      clock = refl;
      slots = refl;
      slot = refl;
      ended = refl;
    }
