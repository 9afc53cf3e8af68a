-- The hierarchy of a geometry and its costs, and which geometries there are.
use Rattle.std.specs.Prelude.{ℕ, ◌*◌, ◌^◌, ◌≤◌, Option, option_map}
use Rattle.cycle_cost.specs.declared.Costs.{Costs}
use Rattle.cycle_cost.specs.declared.ProductCosts.{ProductCosts}
pub use Rattle.cycle_cost.specs.Models.{costs_of, product_costs_of}
use Rattle.set_cache.specs.Rule.{Rule}
use Rattle.set_cache.specs.Cache.{Shape}
use Rattle.set_cache.specs.Calls as cache
use Rattle.l2_colour.specs.Colours.{IsColoured}
use Rattle.branch_pred.specs.Guesses.{AreSizes}
use Rattle.mem_system.specs.Hierarchy.{Hierarchy}
use Rattle.mem_system.specs.declared.geometry.CacheGeometry.{CacheGeometry}
use Rattle.mem_system.specs.declared.geometry.Geometry.{Geometry}

abbrev pub shape_by : {P : Type 0} → (P → ℕ → Rule) → CacheGeometry P → Shape
shape_by rule g = record { rule = rule g.policy g.ways; ways = g.ways; count = g.sets }

abbrev pub hierarchy_by : {P : Type 0} → (P → ℕ → Rule) → Geometry P → Costs → Option ProductCosts → Hierarchy
hierarchy_by rule g costs products = record {
  costs = costs_of costs;
  products = option_map product_costs_of products;
  line_size = g.line_size;
  back = g.back;
  predictor = g.predictor;
  l1i = shape_by rule g.l1i;
  l1d = shape_by rule g.l1d;
  l2 = shape_by rule g.l2;
  tlb = shape_by rule g.tlb;
}

abbrev pub IsCache : {P : Type 0} → (P → ℕ → Type 0) → CacheGeometry P → Type 0
IsCache takes g = cache.IsGeometry (takes g.policy) g.sets g.ways

-- powers of two, whole colours, and at most 16,384 dirty lines
pub record IsGeometry {P : Type 0} (takes : P → ℕ → Type 0) (g : Geometry P) : Type 0 where
  pub least : 16 ≤ g.line_size
  pub coloured : IsColoured g.line_size g.l2.sets
  pub predictor : AreSizes g.predictor
  pub l1i : IsCache takes g.l1i
  pub l1d : IsCache takes g.l1d
  pub l2 : IsCache takes g.l2
  pub tlb : IsCache takes g.tlb
  pub dirty : g.l1d.sets * g.l1d.ways ≤ 2 ^ 14
