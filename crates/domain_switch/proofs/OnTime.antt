-- A switch that begins late by less than the largest step is done by the next start.
use Rattle.std.proofs.Common.{◌≡◌, ℕ, ◌+◌, ◌-◌, ◌≤◌, Bool, Option, arith}
use Rattle.kernel_clone.specs.Footprints.{Layout}
use Rattle.pad_bound.specs.Bound.{bound_of}
use Rattle.pad_bound.specs.Worst.{IsCloneOf}
use Rattle.mem_system.specs.Hierarchy.{Hierarchy}
use Rattle.mem_system.specs.Cost.{Caches, touched_all}
use Rattle.mem_system.specs.Operations.{switch}
use Rattle.mem_system.specs.Worst.{machine_shape}
use Rattle.mem_system.proofs.Worst.{switch_law}
use Rattle.domain_switch.specs.Switch.{IsInTime}

pub done_by : (h : Hierarchy) (pinned : Bool) (caches : Caches) (out : Option Layout) (into : Layout)
    (shared calls old_end now until used : ℕ)
    → IsCloneOf (machine_shape h shared calls) into → old_end ≤ now → IsInTime h caches out into shared calls old_end now until
    → used ≡ now + (touched_all h pinned caches (switch h.costs out into)).cost - old_end → old_end + used ≤ until
unfolding bound_of
done_by h pinned caches out into shared calls old_end now until used clone ended in_time is =
    let work =
    switch_law h in_time.own pinned shared calls out into caches in_time.ways in_time.clean in_time.shares in_time.leaves clone in
    let cost = work.cost in
    omega (arith, is, ended, cost, in_time.late, in_time.pad)
