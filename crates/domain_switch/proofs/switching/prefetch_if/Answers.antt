use Rattle.domain_switch.proofs.switching.prefetch_if.Goals as goal
use Rattle.mem_system.specs.Contents.{system}
use Rattle.mem_system.proofs.Touches.{makes_none}

pub returns-else-wanted-clause-makes : goal.returns-else-wanted-clause-makes
returns-else-wanted-clause-makes g c =
    rw c.if-wanted.false (makes_none g.P.Policy.rule g.P.Policy.stands_for (system c.args.core.now c.args.l2.now))
