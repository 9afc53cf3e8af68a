use Rattle.std.proofs.Common.{◌≡◌, rules, to_z, of_z, w64, sym, subst}
use Rattle.std.specs.Prelude.{ℤ}
use Rattle.cycle_cost.specs.Costs.{IsCost}
use Rattle.image_record.specs.Numbers.{natural_of}
use Rattle.hardware_check.specs.Hardware.{costs_of}
use Rattle.hardware_check.proofs.reading.costs_of.Goals as goal

-- a cost, as the code reads it
read : {z x : ℤ} → z ≡ x → IsCost (natural_of x) → IsCost (natural_of z)
read same cost = subst (λ (y : ℤ). IsCost (natural_of y)) (sym same) cost

pub cost_of-requires : goal.cost_of-requires
unfolding costs_of
cost_of-requires c =
    let x = c.args.costs.now.base in
    let same : to_z w64 (of_z w64 x) ≡ x = search rules in
    record { range = read same c.requires.ranges.base }

pub cost_of-requires-2 : goal.cost_of-requires-2
unfolding costs_of
cost_of-requires-2 c =
    let x = c.args.costs.now.l1 in
    let same : to_z w64 (of_z w64 x) ≡ x = search rules in
    record { range = read same c.requires.ranges.l1 }

pub cost_of-requires-3 : goal.cost_of-requires-3
unfolding costs_of
cost_of-requires-3 c =
    let x = c.args.costs.now.l2 in
    let same : to_z w64 (of_z w64 x) ≡ x = search rules in
    record { range = read same c.requires.ranges.l2 }

pub cost_of-requires-4 : goal.cost_of-requires-4
unfolding costs_of
cost_of-requires-4 c =
    let x = c.args.costs.now.mem in
    let same : to_z w64 (of_z w64 x) ≡ x = search rules in
    record { range = read same c.requires.ranges.mem }

pub cost_of-requires-5 : goal.cost_of-requires-5
unfolding costs_of
cost_of-requires-5 c =
    let x = c.args.costs.now.wb in
    let same : to_z w64 (of_z w64 x) ≡ x = search rules in
    record { range = read same c.requires.ranges.wb }

pub cost_of-requires-6 : goal.cost_of-requires-6
unfolding costs_of
cost_of-requires-6 c =
    let x = c.args.costs.now.tlb in
    let same : to_z w64 (of_z w64 x) ≡ x = search rules in
    record { range = read same c.requires.ranges.tlb }

pub cost_of-requires-7 : goal.cost_of-requires-7
unfolding costs_of
cost_of-requires-7 c =
    let x = c.args.costs.now.mispredict in
    let same : to_z w64 (of_z w64 x) ≡ x = search rules in
    record { range = read same c.requires.ranges.mispredict }

pub cost_of-requires-8 : goal.cost_of-requires-8
unfolding costs_of
cost_of-requires-8 c =
    let x = c.args.costs.now.trap in
    let same : to_z w64 (of_z w64 x) ≡ x = search rules in
    record { range = read same c.requires.ranges.trap }

pub cost_of-requires-9 : goal.cost_of-requires-9
unfolding costs_of
cost_of-requires-9 c =
    let x = c.args.costs.now.flush in
    let same : to_z w64 (of_z w64 x) ≡ x = search rules in
    record { range = read same c.requires.ranges.flush }

pub invariant_of-result : goal.invariant_of-result
invariant_of-result c = record {
  base_range = c.cost_of.ensures.range;
  l1_range = c.cost_of-2.ensures.range;
  l2_range = c.cost_of-3.ensures.range;
  mem_range = c.cost_of-4.ensures.range;
  wb_range = c.cost_of-5.ensures.range;
  tlb_range = c.cost_of-6.ensures.range;
  mispredict_range = c.cost_of-7.ensures.range;
  trap_range = c.cost_of-8.ensures.range;
  flush_range = c.cost_of-9.ensures.range;
}
