-- The trap is charged, and then the footprint.
use Rattle.std.proofs.Common.{ap}
use Rattle.kernel_clone.specs.Models.{layout_model, work_model}
use Rattle.cycle_cost.specs.Costs.{CostTable}
use Rattle.domain_switch.proofs.Charges.{operation_made}
use Rattle.mem_system.specs.Contents.{system}
use Rattle.domain_switch.proofs.charging.charge.Goals as goal

pub returns-clause-makes : goal.returns-clause-makes
returns-clause-makes g c =
    operation_made g.P.Policy.rule g.P.Policy.stands_for c.args.core.now.costs (layout_model c.args.layout.now) (work_model c.args.work.now)
    c.costs-trap.result.trap c.charge_footprint.result (system c.args.core.now c.args.l2.now)
    (system c.charge_footprint.new.core c.charge_footprint.new.l2)
    (ap (λ (costs : CostTable). costs.trap) c.costs-trap.ensures.table) c.charge_footprint.ensures.makes
