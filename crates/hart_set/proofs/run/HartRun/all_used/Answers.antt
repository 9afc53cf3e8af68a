use Rattle.std.proofs.Common.{subst}
use Rattle.domain_step.specs.Usage.{IsUsed}
use Rattle.hart_set.specs.Run.{Run, world_of}
use Rattle.hart_set.proofs.RunSeen.{used_of_run}
use Rattle.hart_set.proofs.run.HartRun.all_used.Goals as goal

pub returns-clause-each : goal.returns-clause-each
returns-clause-each c =
    let r = c.self.inside in
    let used = c.all_used.result.now in
    subst (λ (v : Run). IsUsed used (world_of v).used) c.self.view_is
    (used_of_run r.harts r.choice r.slots c.self.invariant used c.all_used.ensures.each)
