use Rattle.std.proofs.Common.{rules, ◌<◌, ◌≤◌, sym}
use Rattle.kernel_call.specs.Models.{dom_model}
use Rattle.kernel_call.proofs.Paths.{filled_stops, filled_found}
use Rattle.kernel_call.proofs.slots.filled.Goals as goal

pub returns-then-slot-ge-SLOTS-clause-finds : goal.returns-then-slot-ge-SLOTS-clause-finds
returns-then-slot-ge-SLOTS-clause-finds c readings replies m =
    let above : 64 ≤ c.args.slot = search rules in
    filled_stops (dom_model c.args.domain.now readings replies) c.args.slot m above

pub returns-clause-finds : goal.returns-clause-finds
returns-clause-finds c readings replies m =
    let below : c.args.slot < 64 = search rules in
    filled_found (dom_model c.args.domain.now readings replies) c.args.slot c.get.result c.ok_or.result m below
    (sym c.get.ensures.cap) c.ok_or.ensures.value
