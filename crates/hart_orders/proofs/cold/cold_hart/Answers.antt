use Rattle.hardware_check.specs.Models.{hardware_model}
use Rattle.hart_orders.specs.Off.{levels_by}
use Rattle.hart_orders.proofs.ColdCores.{cold_hart}
use Rattle.hart_orders.proofs.cold.cold_hart.Goals as goal

pub returns : goal.returns
returns c = record {
  cold =
      cold_hart c.geometry_off.result c.args.hardware.now.costs c.args.hardware.now.muldiv (levels_by c.args.off (hardware_model c.args.hardware.now))
      c.geometry_off.ensures.hierarchy c.args.l2.now c.requires.l2 c.in_ok-core.core
      (record {
        costs_are = c.in_ok-core.ensures.costs;
        products_are = c.in_ok-core.ensures.products;
        pinned = c.in_ok-core.ensures.pinned;
        l1i = c.in_ok-core.ensures.l1i;
        l1d = c.in_ok-core.ensures.l1d;
        tlb = c.in_ok-core.ensures.tlb;
        fresh = c.in_ok-core.ensures.fresh;
      });
}
