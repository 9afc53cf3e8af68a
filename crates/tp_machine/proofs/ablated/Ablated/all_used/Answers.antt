use Rattle.std.proofs.Common.{ℕ, List, Some, subst}
use Rattle.domain_step.specs.Usage.{IsUsed}
use Rattle.tp_machine.specs.Ablated.{Ablation, world_off}
use Rattle.tp_machine.proofs.OneHart.{used_is}
use Rattle.tp_machine.proofs.ablated.Ablated.all_used.Goals as goal

pub returns-clause-each : goal.returns-clause-each
returns-clause-each c =
    let m = c.self.inside in
    subst (λ (v : Ablation). IsUsed c.all_used.result.now (world_off v).used) c.self.view_is
    (used_is (Some m.off) m.harts m.slots c.self.invariant (λ (us : List (ℕ × ℕ)). IsUsed c.all_used.result.now us)
    c.all_used.ensures.each)
