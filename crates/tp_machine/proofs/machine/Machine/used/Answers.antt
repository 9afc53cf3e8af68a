use Rattle.std.proofs.Common.{◌≡◌, ◌≤◌, ℕ, List, None, subst}
use Rattle.sched_table.specs.Schedule.{entry_in}
use Rattle.world_view.specs.Used.{largest_of, count_of}
use Rattle.tp_machine.specs.Models.{Ran, image_of, world_of}
use Rattle.tp_machine.proofs.OneHart.{used_is}
use Rattle.tp_machine.proofs.machine.Machine.used.Goals as goal

pub returns-clause-largest : goal.returns-clause-largest
returns-clause-largest c =
    let m = c.self.inside in
    let e = c.args.entry in
    subst (λ (v : Ran). c.used.result.largest ≡ largest_of e (world_of v).used) c.self.view_is
    (used_is None m.harts m.slots c.self.invariant (λ (us : List (ℕ × ℕ)). c.used.result.largest ≡ largest_of e us)
    c.used.ensures.largest)

pub returns-clause-count : goal.returns-clause-count
returns-clause-count c =
    let m = c.self.inside in
    let e = c.args.entry in
    subst (λ (v : Ran). c.used.result.count ≡ count_of e (world_of v).used) c.self.view_is
    (used_is None m.harts m.slots c.self.invariant (λ (us : List (ℕ × ℕ)). c.used.result.count ≡ count_of e us)
    c.used.ensures.count)

pub returns-clause-within : goal.returns-clause-within
returns-clause-within c =
    subst (λ (v : Ran). c.used.result.largest ≤ (entry_in (image_of v).all.schedule c.args.entry).pad) c.self.view_is
    (c.used.ensures.within c.self.invariant.without)
