use Rattle.std.proofs.Common.{◌≡◌, ℕ, List, Some, subst}
use Rattle.world_view.specs.Used.{largest_of, count_of}
use Rattle.tp_machine.specs.Ablated.{Ablation, world_off}
use Rattle.tp_machine.proofs.OneHart.{used_is}
use Rattle.tp_machine.proofs.ablated.Ablated.used.Goals as goal

pub returns-clause-largest : goal.returns-clause-largest
returns-clause-largest c =
    let m = c.self.inside in
    let e = c.args.entry in
    subst (λ (v : Ablation). c.used.result.largest ≡ largest_of e (world_off v).used) c.self.view_is
    (used_is (Some m.off) m.harts m.slots c.self.invariant (λ (us : List (ℕ × ℕ)). c.used.result.largest ≡ largest_of e us)
    c.used.ensures.largest)

pub returns-clause-count : goal.returns-clause-count
returns-clause-count c =
    let m = c.self.inside in
    let e = c.args.entry in
    subst (λ (v : Ablation). c.used.result.count ≡ count_of e (world_off v).used) c.self.view_is
    (used_is (Some m.off) m.harts m.slots c.self.invariant (λ (us : List (ℕ × ℕ)). c.used.result.count ≡ count_of e us)
    c.used.ensures.count)
