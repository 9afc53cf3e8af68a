use Rattle.std.proofs.Common.{◌<◌, ℕ, arith, subst}
use Rattle.repl_policy.specs.Orders.{to_front}
use Rattle.repl_policy.specs.Packed.{Packs}
use Rattle.repl_policy.proofs.Packing.{room_in_front, Packs-to_front, Packs-newest}
use Rattle.repl_policy.proofs.Shifts.{closed_up-without, masked, without_oldest}
use Rattle.repl_policy.proofs.order.to_front.Goals as goal

pub returns-then-state-newest-clause-moved : goal.returns-then-state-newest-clause-moved
returns-then-state-newest-clause-moved c = λ list packs.
    Packs-newest c.args.ways c.args.state c.args.way list packs c.requires.few c.requires.below
    (omega (arith, c.from-newest.ensures, c.if-state-newest.true))

pub returns-then-state-newest-clause-again : goal.returns-then-state-newest-clause-again
returns-then-state-newest-clause-again c = returns-then-state-newest-clause-moved c

pub overflow_mul-result : goal.overflow_mul-result
overflow_mul-result c =
    let list = c.requires.valid.0 in
    let packs = c.requires.valid.1 in
    let rest = without_oldest c.args.ways c.args.state c.args.way c.from-newest.result list packs c.requires.few c.requires.below
    c.from-newest.ensures c.if-state-last.true c.ranges.state.fits in
    let room = room_in_front c.args.ways c.args.way c.args.state list packs c.requires.below c.requires.few in
    omega (arith, rest, room, c.from-newest.ensures)

pub overflow_add-result : goal.overflow_add-result
overflow_add-result c =
    let list = c.requires.valid.0 in
    let packs = c.requires.valid.1 in
    let rest = without_oldest c.args.ways c.args.state c.args.way c.from-newest.result list packs c.requires.few c.requires.below
    c.from-newest.ensures c.if-state-last.true c.ranges.state.fits in
    let room = room_in_front c.args.ways c.args.way c.args.state list packs c.requires.below c.requires.few in
    omega (arith, rest, room, c.from-newest.ensures)

pub returns-then-state-last-clause-moved : goal.returns-then-state-last-clause-moved
returns-then-state-last-clause-moved c = λ list packs.
    let rest = without_oldest c.args.ways c.args.state c.args.way c.from-newest.result list packs c.requires.few c.requires.below
    c.from-newest.ensures c.if-state-last.true c.ranges.state.fits in
    subst (λ (s : ℕ). Packs c.args.ways s (to_front list c.args.way)) (omega (arith, rest, c.from-newest.ensures))
    (Packs-to_front c.args.ways c.args.state c.args.way list packs c.requires.below)

pub returns-then-state-last-clause-again : goal.returns-then-state-last-clause-again
returns-then-state-last-clause-again c = λ list packs.
    Packs-newest c.args.ways _ c.args.way list packs c.requires.few c.requires.below
    (omega (arith, c.from-newest.ensures))

pub overflow_add-result-2 : goal.overflow_add-result-2
overflow_add-result-2 c =
    let place : ℕ = c.place_of-shift.result in
    let below : place < c.args.ways = c.place_of-shift.ensures.within in
    let stands = c.place_of-shift.ensures.stands in
    let sum = masked c.args.state place (omega (arith, below, c.requires.few)) c.ranges.state.fits in
    let list = c.requires.valid.0 in
    let packs = c.requires.valid.1 in
    let rest = closed_up-without c.args.ways c.args.state c.args.way place list packs c.requires.few c.requires.below stands below in
    let room = room_in_front c.args.ways c.args.way c.args.state list packs c.requires.below c.requires.few in
    omega (arith, sum, rest, room, c.from-newest.ensures)

pub overflow_mul-result-2 : goal.overflow_mul-result-2
overflow_mul-result-2 c =
    let place : ℕ = c.place_of-shift.result in
    let below : place < c.args.ways = c.place_of-shift.ensures.within in
    let stands = c.place_of-shift.ensures.stands in
    let sum = masked c.args.state place (omega (arith, below, c.requires.few)) c.ranges.state.fits in
    let list = c.requires.valid.0 in
    let packs = c.requires.valid.1 in
    let rest = closed_up-without c.args.ways c.args.state c.args.way place list packs c.requires.few c.requires.below stands below in
    let room = room_in_front c.args.ways c.args.way c.args.state list packs c.requires.below c.requires.few in
    omega (arith, sum, rest, room, c.from-newest.ensures)

pub overflow_add-result-3 : goal.overflow_add-result-3
overflow_add-result-3 c =
    let place : ℕ = c.place_of-shift.result in
    let below : place < c.args.ways = c.place_of-shift.ensures.within in
    let stands = c.place_of-shift.ensures.stands in
    let sum = masked c.args.state place (omega (arith, below, c.requires.few)) c.ranges.state.fits in
    let list = c.requires.valid.0 in
    let packs = c.requires.valid.1 in
    let rest = closed_up-without c.args.ways c.args.state c.args.way place list packs c.requires.few c.requires.below stands below in
    let room = room_in_front c.args.ways c.args.way c.args.state list packs c.requires.below c.requires.few in
    omega (arith, sum, rest, room, c.from-newest.ensures)

pub returns-clause-moved : goal.returns-clause-moved
returns-clause-moved c = λ list packs.
    let place : ℕ = c.place_of-shift.result in
    let below : place < c.args.ways = c.place_of-shift.ensures.within in
    let stands = c.place_of-shift.ensures.stands in
    let sum = masked c.args.state place (omega (arith, below, c.requires.few)) c.ranges.state.fits in
    let rest = closed_up-without c.args.ways c.args.state c.args.way place list packs c.requires.few c.requires.below stands below in
    subst (λ (s : ℕ). Packs c.args.ways s (to_front list c.args.way)) (omega (arith, sum, rest, c.from-newest.ensures))
    (Packs-to_front c.args.ways c.args.state c.args.way list packs c.requires.below)

pub returns-clause-again : goal.returns-clause-again
returns-clause-again c = λ list packs.
    Packs-newest c.args.ways _ c.args.way list packs c.requires.few c.requires.below
    (omega (arith, c.from-newest.ensures))
