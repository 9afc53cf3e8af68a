-- The geometry of a machine that keeps the rules is one of a hierarchy, and that is the machine's.
use Rattle.std.proofs.Common.{◌≡◌, ℕ, ◌^◌, ◌≤◌, refl, sym, ap, ◌∙◌, arith, zero, suc, subst, lit≤, ◌⊎◌, inl, inr, Option}
use Rattle.std.specs.Prelude.{option_map, ◌==◌, ◌||◌, Bool, true}
use Rattle.std.specs.Int.{IsPowerOfTwo, is_power_of_two}
use Rattle.std.proofs.lemmas.Bool.{cases_Bool}
use Rattle.std.proofs.lemmas.Bool.Decides.{nat_tests}
use Rattle.std.proofs.lemmas.Nat.{mul-le}
use Rattle.std.proofs.Math.Nat.{pow-le-pow_right}
use Rattle.hardware_check.proofs.Powers.{power_is}
use Rattle.set_cache.specs.Calls as cache
use Rattle.repl_policy.specs.Members.{any_takes, any_rule}
use Rattle.repl_policy.specs.Halves.{depth_of}
use Rattle.cycle_cost.specs.declared.Costs.{Costs}
use Rattle.cycle_cost.specs.declared.ProductCosts.{ProductCosts}
use Rattle.repl_policy.specs.declared.AnyPolicy.{AnyPolicy}
use Rattle.mem_system.specs.declared.geometry.CacheGeometry.{CacheGeometry}
use Rattle.mem_system.specs.declared.geometry.Geometry.{Geometry}
use Rattle.mem_system.specs.Geometry.{IsGeometry, hierarchy_by, costs_of, product_costs_of}
use Rattle.hardware_check.specs.declared.hardware.Policy.{Policy}
use Rattle.hardware_check.specs.declared.hardware.Policy.TheVariants.{Lru, Fifo, Plru, Nmru}
use Rattle.hardware_check.specs.Hardware.{Hardware, CacheShape, IsCache, IsHardware, IsBuffer}
use Rattle.world_view.specs.Cost.{rule_of, hierarchy, predictor_sizes}
use Rattle.world_view.specs.Geometry.{any_of, cache_geometry, geometry}
use Rattle.world_view.proofs.touches.Hierarchies.{coloured}

-- a power of two up to 16 is that of its depth
depth_is : (k ways : ℕ) → ways ≡ 2 ^ k → ways ≤ 16 → ways ≡ 2 ^ depth_of ways
depth_is zero ways is few = rw is refl
depth_is (suc zero) ways is few = rw is refl
depth_is (suc (suc zero)) ways is few = rw is refl
depth_is (suc (suc (suc zero))) ways is few = rw is refl
depth_is (suc (suc (suc (suc zero)))) ways is few = rw is refl
depth_is (suc (suc (suc (suc (suc k))))) ways is few =
    let five : 5 ≤ suc (suc (suc (suc (suc k)))) = omega arith in
    let many : 2 ^ 5 ≤ 2 ^ (suc (suc (suc (suc (suc k))))) = pow-le-pow_right (lit≤ tt) five in
    absurd (omega (arith, is, many, few))

takes : (c : CacheShape) (most : ℕ) → IsCache most c → any_takes (any_of c.policy) c.ways
takes c most is = by_policy c.policy refl
  where
    by_policy : (policy : Policy) → c.policy ≡ policy → any_takes (any_of policy) c.ways
    by_policy Lru e = (is.some_way, is.few_ways)
    by_policy Fifo e = (is.some_way, is.few_ways)
    by_policy Nmru e = (is.some_way, is.few_ways)
    by_policy Plru e =
        let power = power_is c.ways (is.tree e) in
        (is.some_way, is.few_ways, depth_is power.0 c.ways power.1 is.few_ways)

cache_is : (c : CacheShape) (most : ℕ) → most ≤ 16384 → IsCache most c
    → cache.IsGeometry (any_takes (any_of c.policy)) c.sets c.ways
cache_is c most few is =
    let product = mul-le c.sets c.ways most 16 is.sets.most is.few_ways in
    record { taken = takes c most is; power = power_is c.sets is.sets.power; small = omega (arith, product, few) }

are_targets : (n : ℕ) → IsBuffer n → (n ≡ 0) ⊎ IsPowerOfTwo n
are_targets n is = elim (cases_Bool (n == 0)) [
  | inl none ↦ inl (grind (arith, nat_tests, none))
  | inr some ↦ inr (power_is n (subst (λ (b : Bool). (b || is_power_of_two n) ≡ true) some is))
]

geometry_sound : (p : Hardware) → IsHardware p → IsGeometry any_takes (geometry p)
unfolding hierarchy
geometry_sound p h =
    let product = mul-le p.l1d.sets p.l1d.ways 1024 16 h.l1d.sets.most h.l1d.few_ways in
    record {
      least = h.line.least;
      coloured = coloured p h;
      predictor = record {
        counters = power_is p.predictor h.predictor.power;
        history = h.few_history;
        targets = are_targets p.targets h.targets;
      };
      l1i = cache_is p.l1i 1024 (lit≤ tt) h.l1i;
      l1d = cache_is p.l1d 1024 (lit≤ tt) h.l1d;
      l2 = cache_is p.l2 16384 (lit≤ tt) h.l2;
      tlb = cache_is p.tlb 256 (lit≤ tt) h.tlb;
      dirty = omega (arith, product);
    }

rule_is : (policy : Policy) → any_rule (any_of policy) ≡ rule_of policy
rule_is Lru = refl
rule_is Fifo = refl
rule_is Plru = refl
rule_is Nmru = refl

geometry_hierarchy : (p : Hardware) (costs : Costs) (products : Option ProductCosts)
    → costs_of costs ≡ p.costs
    → option_map product_costs_of products ≡ p.muldiv → hierarchy_by any_rule (geometry p) costs products ≡ hierarchy p
unfolding hierarchy
geometry_hierarchy p costs products same made =
    rw (same, made, rule_is p.l1i.policy, rule_is p.l1d.policy, rule_is p.l2.policy, rule_is p.tlb.policy)
    refl

-- of these four parts
module _ (p : Hardware) (l1i l1d l2 tlb : CacheGeometry AnyPolicy) (a : l1i ≡ cache_geometry p.l1i) (b : l1d ≡ cache_geometry p.l1d)
    (c : l2 ≡ cache_geometry p.l2) (d : tlb ≡ cache_geometry p.tlb) where
  abbrev pub parts : Geometry AnyPolicy
  parts = record { line_size = p.line; back = p.back; predictor = predictor_sizes p; l1i = l1i; l1d = l1d; l2 = l2; tlb = tlb }

  parts_are : parts ≡ geometry p
  parts_are =
      let x : ◌≡◌ {A = Geometry AnyPolicy} (record (geometry p) { l1i = l1i }) (geometry p) =
      ap (λ (g : CacheGeometry AnyPolicy). record (geometry p) { l1i = g }) a in
      let y : ◌≡◌ {A = Geometry AnyPolicy} (record (geometry p) { l1i = l1i; l1d = l1d })
      (record (geometry p) { l1i = l1i }) =
      ap (λ (g : CacheGeometry AnyPolicy). record (geometry p) { l1i = l1i; l1d = g }) b in
      let z : ◌≡◌ {A = Geometry AnyPolicy} (record (geometry p) { l1i = l1i; l1d = l1d; l2 = l2 })
      (record (geometry p) { l1i = l1i; l1d = l1d }) =
      ap (λ (g : CacheGeometry AnyPolicy). record (geometry p) { l1i = l1i; l1d = l1d; l2 = g }) c in
      ap (λ (g : CacheGeometry AnyPolicy). record (geometry p) { l1i = l1i; l1d = l1d; l2 = l2; tlb = g }) d ∙ z ∙ y ∙ x

  pub parts_sound : IsHardware p → IsGeometry any_takes parts
  parts_sound h = subst (IsGeometry any_takes) (sym parts_are) (geometry_sound p h)

  pub parts_hierarchy : (costs : Costs) (products : Option ProductCosts) → costs_of costs ≡ p.costs
      → option_map product_costs_of products ≡ p.muldiv → hierarchy_by any_rule parts costs products ≡ hierarchy p
  parts_hierarchy costs products same made =
      ap (λ (g : Geometry AnyPolicy). hierarchy_by any_rule g costs products) parts_are
      ∙ geometry_hierarchy p costs products same made
