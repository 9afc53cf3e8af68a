-- A core and a second level that were just made.
use Rattle.std.proofs.Common.{◌≡◌, ℕ, List, Option, None, Result, Ok, Err, refl, ap, subst, ◌∙◌}
use Rattle.std.specs.Prelude.{option_map, IfOk}
use Rattle.std.proofs.lemmas.List.{length-replicate}
use Rattle.tp_base.specs.Table.{empty}
use Rattle.cycle_cost.specs.declared.Costs.{Costs}
use Rattle.cycle_cost.specs.declared.ProductCosts.{ProductCosts}
use Rattle.set_cache.specs.Rule.{Rule}
use Rattle.set_cache.specs.Contents.{Contents, shape_of}
use Rattle.set_cache.specs.Calls.{IsNew}
use Rattle.branch_pred.specs.declared.Sizes.{Sizes}
use Rattle.branch_pred.specs.Guesses.{fresh_guesses, sizes_of}
use Rattle.branch_pred.specs.declared.Jump.{Jump}
use Rattle.l2_colour.specs.Contents.{L2Contents}
use Rattle.mem_system.specs.declared.geometry.Geometry.{Geometry}
use Rattle.mem_system.specs.Cost.{cold, fresh_core}
use Rattle.mem_system.specs.Contents.{CoreContents, CoreStands, SystemStands, hierarchy_of, system}
use Rattle.mem_system.specs.Geometry.{hierarchy_by, shape_by, costs_of, product_costs_of}

-- what is true of each of two parts, where both could be made
pub of_first : {A B E : Type 0} (P : A → Type 0) (first : Result A E) (both : Result (A × B) E)
    → IfOk both (λ made. first ≡ Ok made.0) → IfOk first P → IfOk both (λ made. P made.0)
of_first P first (Ok made) is true_of = subst (λ o. IfOk o P) is true_of
of_first P first (Err e) is true_of = tt

pub of_second : {A B E : Type 0} (P : B → Type 0) (second : Result B E) (both : Result (A × B) E)
    → IfOk both (λ made. second ≡ Ok made.1) → IfOk second P → IfOk both (λ made. P made.1)
of_second P second (Ok made) is true_of = subst (λ o. IfOk o P) is true_of
of_second P second (Err e) is true_of = tt

-- a new cache has the shape that it was made with
pub shape_made : {P : Type 0} (takes : P → ℕ → Type 0) (rule : P → ℕ → Rule)
    (stands : P → ℕ → ℕ → List ℕ → Type 0)
    (policy : P) (sets ways : ℕ) (cache : Contents P) → IsNew takes stands policy sets ways cache
    → shape_of rule cache ≡ record { rule = rule policy ways; ways = ways; count = sets }
shape_made takes rule stands policy sets ways cache made = rw (made.same_policy, made.same_ways, made.same_sets) refl

pub sizes_made : (s : Sizes) → sizes_of (fresh_guesses s) ≡ s
sizes_made s = rw (length-replicate {A = ℕ} s.counters 1, length-replicate {A = Option Jump} s.targets None) refl

module _ {P : Type 0} (takes : P → ℕ → Type 0) (rule : P → ℕ → Rule) (stands : P → ℕ → ℕ → List ℕ → Type 0)
    (g : Geometry P) (costs : Costs) (products : Option ProductCosts) (core : CoreContents P) (l2 : L2Contents P)
    (made : IsNew takes stands g.l2.policy g.l2.sets g.l2.ways l2.cache)
    (fresh : CoreStands stands core (record { l1i = empty; l1d = empty; tlb = empty; guesses = fresh_guesses g.predictor })) where
  pub hierarchy_made : core.costs ≡ costs_of costs → core.products ≡ option_map product_costs_of products
      → shape_of rule core.l1i ≡ shape_by rule g.l1i → shape_of rule core.l1d ≡ shape_by rule g.l1d
      → shape_of rule core.tlb.pages ≡ shape_by rule g.tlb → l2.line_size ≡ g.line_size → l2.back ≡ g.back
      → hierarchy_of rule (system core l2) ≡ hierarchy_by rule g costs products
  hierarchy_made cost product l1i l1d tlb size back =
      cc (shape_made takes rule stands g.l2.policy g.l2.sets g.l2.ways l2.cache made, ap sizes_of fresh.guesses ∙ sizes_made g.predictor)

  pub stands_cold : SystemStands stands (system core l2) (cold (hierarchy_by rule g costs products))
  unfolding cold fresh_core
  stands_cold = record { core = fresh; l2 = made.fresh }

-- what is true of a core and of a second level is true of both
module _ {P E : Type 0} (takes : P → ℕ → Type 0) (rule : P → ℕ → Rule) (stands : P → ℕ → ℕ → List ℕ → Type 0)
    (g : Geometry P) (costs : Costs) (products : Option ProductCosts) where
  pub both_cold : (made : Result (CoreContents P × L2Contents P) E)
      → IfOk made (λ m. CoreStands stands m.0 (record { l1i = empty; l1d = empty; tlb = empty; guesses = fresh_guesses g.predictor }))
      → IfOk made (λ m. IsNew takes stands g.l2.policy g.l2.sets g.l2.ways m.1.cache)
      → IfOk made (λ m. SystemStands stands (system m.0 m.1) (cold (hierarchy_by rule g costs products)))
  both_cold (Ok m) fresh new = stands_cold takes rule stands g costs products m.0 m.1 new fresh
  both_cold (Err e) fresh new = tt

  pub both_hierarchy : (made : Result (CoreContents P × L2Contents P) E)
      → IfOk made (λ m. CoreStands stands m.0 (record { l1i = empty; l1d = empty; tlb = empty; guesses = fresh_guesses g.predictor }))
      → IfOk made (λ m. IsNew takes stands g.l2.policy g.l2.sets g.l2.ways m.1.cache)
      → IfOk made (λ m. m.0.costs ≡ costs_of costs) → IfOk made (λ m. m.0.products ≡ option_map product_costs_of products)
      → IfOk made (λ m. shape_of rule m.0.l1i ≡ shape_by rule g.l1i) → IfOk made (λ m. shape_of rule m.0.l1d ≡ shape_by rule g.l1d)
      → IfOk made (λ m. shape_of rule m.0.tlb.pages ≡ shape_by rule g.tlb)
      → IfOk made (λ m. m.1.line_size ≡ g.line_size) → IfOk made (λ m. m.1.back ≡ g.back)
      → IfOk made (λ m. hierarchy_of rule (system m.0 m.1) ≡ hierarchy_by rule g costs products)
  both_hierarchy (Ok m) fresh new cost product l1i l1d tlb size back =
      hierarchy_made takes rule stands g costs products m.0 m.1 new fresh cost product l1i l1d tlb size back
  both_hierarchy (Err e) fresh new cost product l1i l1d tlb size back = tt
