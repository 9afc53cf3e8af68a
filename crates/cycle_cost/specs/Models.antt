-- How contracts see the code's costs.
use Rattle.cycle_cost.specs.Costs as spec
use Rattle.cycle_cost.specs.Costs.{CostTable}
use Rattle.cycle_cost.specs.declared.Costs.{Costs}
use Rattle.cycle_cost.specs.declared.ProductCosts.{ProductCosts}

abbrev pub costs_of : Costs → CostTable
costs_of c = record {
  base = c.base;
  l1 = c.l1;
  l2 = c.l2;
  mem = c.mem;
  wb = c.wb;
  tlb = c.tlb;
  mispredict = c.mispredict;
  trap = c.trap;
  flush = c.flush;
}

abbrev pub product_costs_of : ProductCosts → spec.ProductCosts
product_costs_of c = record { mul = c.mul; div = c.div }
