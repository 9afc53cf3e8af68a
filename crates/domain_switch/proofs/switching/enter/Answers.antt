use Rattle.kernel_clone.specs.Models.{layout_model}
use Rattle.domain_switch.proofs.Charges.{enters}
use Rattle.mem_system.specs.Contents.{system}
use Rattle.domain_switch.proofs.switching.enter.Goals as goal

pub returns-clause-makes : goal.returns-clause-makes
returns-clause-makes g c =
    enters g.P.Policy.rule g.P.Policy.stands_for (layout_model c.args.layout.now)
    c.charge_own.result (system c.args.core.now c.args.l2.now) (system c.charge_own.new.core c.charge_own.new.l2) c.charge_own.ensures.makes
