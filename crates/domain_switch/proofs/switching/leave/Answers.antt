use Rattle.std.proofs.Common.{ap}
use Rattle.cycle_cost.specs.Costs.{CostTable}
use Rattle.kernel_clone.specs.Models.{layout_model}
use Rattle.domain_switch.proofs.Charges.{leaves}
use Rattle.mem_system.specs.Contents.{system}
use Rattle.domain_switch.proofs.switching.leave.Goals as goal

pub returns-clause-makes : goal.returns-clause-makes
returns-clause-makes g c =
    leaves g.P.Policy.rule g.P.Policy.stands_for c.args.core.now.costs (layout_model c.args.layout.now)
    c.costs-trap.result.trap c.charge_own.result (system c.args.core.now c.args.l2.now) (system c.charge_own.new.core c.charge_own.new.l2)
    (ap (λ (costs : CostTable). costs.trap) c.costs-trap.ensures.table) c.charge_own.ensures.makes
