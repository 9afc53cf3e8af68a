-- A clone leaves, or none.
use Rattle.std.proofs.Common.{ap}
use Rattle.std.specs.Option.{option_copied}
use Rattle.kernel_clone.specs.Models.{layout_model}
use Rattle.domain_switch.specs.Switch.{layout_if}
use Rattle.domain_switch.proofs.Charges.{leaves_some, leaves_none}
use Rattle.mem_system.specs.Contents.{system}
use Rattle.domain_switch.proofs.switching.leave_if.Goals as goal

pub returns-in-Some-clause-makes : goal.returns-in-Some-clause-makes
returns-in-Some-clause-makes g c =
    leaves_some g.P.Policy.rule g.P.Policy.stands_for c.args.core.now.costs (layout_model c.in-Some.clone.now)
    (layout_if (option_copied c.args.out))
    c.leave.result (system c.args.core.now c.args.l2.now) (system c.leave.new.core c.leave.new.l2)
    (ap (λ out. layout_if (option_copied out)) c.in-Some.is) c.leave.ensures.makes

pub returns-in-None-clause-makes : goal.returns-in-None-clause-makes
returns-in-None-clause-makes g c =
    leaves_none g.P.Policy.rule g.P.Policy.stands_for c.args.core.now.costs
    (layout_if (option_copied c.args.out)) (system c.args.core.now c.args.l2.now)
    (ap (λ out. layout_if (option_copied out)) c.in-None.is)
