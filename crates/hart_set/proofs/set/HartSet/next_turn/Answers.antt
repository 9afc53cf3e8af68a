use Rattle.std.proofs.Common.{◌≡◌, ◌∙◌, ℕ, ◌<◌, List, length, refl, ap, sym, subst, arith}
use Rattle.image_record.specs.Record.{Raw}
use Rattle.sched_table.specs.declared.schedule.Entry.{Entry}
use Rattle.sched_table.specs.Schedule.{entry_in, entry_of_slot, entries_alone, entries_on, on_hart, place_in, place_on, switch_entry}
use Rattle.image_check.specs.Image.{Image, image_from}
use Rattle.world_view.specs.Relations.{IsDomain}
use Rattle.world_view.proofs.harts.OnHart.{separated_on, placed_switch}
use Rattle.hart_orders.specs.declared.hart.Hart.{Hart}
use Rattle.hart_set.specs.declared.set.State.{State}
use Rattle.hart_set.specs.Models.{image_of}
use Rattle.hart_set.specs.Turns.{IsTurn}
use Rattle.hart_set.proofs.Called.{Called, hart_below, called, within, for_hart}
use Rattle.hart_set.proofs.Turning.{one_each, own_entries, turn_on, ended_named}
use Rattle.hart_set.proofs.set.HartSet.next_turn.Goals as goal

pub index-requires : goal.index-requires
index-requires c =
    let i = image_from c.self.inside.image.now in
    let below = hart_below c.self.inside.image.now c.self.inside.state c.args.self.now c.self.view_is c.args.h c.requires.hart in
    let all = one_each c.public.result.now i.all c.public.ensures.value in
    omega (arith, below, all)

pub index-requires-2 : goal.index-requires-2
index-requires-2 c =
    let there =
    within c.self.inside.image.now c.self.inside.state c.args.self.now c.self.view_is c.args.h c.args.h
    refl c.requires.hart c.self.invariant in
    omega (arith, there)

pub turn-requires : goal.turn-requires
turn-requires c =
    let k =
    called c.self.inside.image.now c.self.inside.state c.args.self.now c.self.view_is c.args.h c.requires.hart c.self.invariant
    c.index-2.result.now c.index-2.ensures in
    record { few = c.self.invariant.in_bounds.few_slots c.args.h c.index-2.result.now k.got }

here : (c : goal.After-turn)
    → Called (image_from c.self.inside.image.now) c.self.inside.state c.args.h c.index-2.result.now
here c =
    called c.self.inside.image.now c.self.inside.state c.args.self.now c.self.view_is c.args.h c.requires.hart c.self.invariant
    c.index-2.result.now c.index-2.ensures

-- the hart's own entries
own : (c : goal.After-turn)
    → c.index.result.now ≡ entries_on (image_from c.self.inside.image.now).all.schedule c.args.h
own c =
    own_entries c.public.result.now (image_from c.self.inside.image.now).all c.public.ensures.value c.args.h c.index.result.now
    (here c).below c.index.ensures

pub returns-clause-turn : goal.returns-clause-turn
returns-clause-turn c =
    for_hart c.self.inside.image.now c.self.inside.state c.args.self.now c.self.view_is c.args.h c.index-2.result.now
    (λ (i : Image) (x : Hart). IsTurn (on_hart i.all.schedule c.args.h) x.slots c.turn.result) (here c).got
    (turn_on (image_from c.self.inside.image.now).all.schedule (entries_alone c.index.result.now) c.args.h
    c.index-2.result.now.slots c.turn.result
    (ap entries_alone (own c)) c.turn.ensures.entry c.turn.ensures.start c.turn.ensures.ended c.turn.ensures.last_end)

pub returns-clause-place : goal.returns-clause-place
returns-clause-place c =
    for_hart c.self.inside.image.now c.self.inside.state c.args.self.now c.self.view_is c.args.h c.index-2.result.now
    (λ (i : Image) (x : Hart). c.turn.result.place
    ≡ place_on i.all.schedule c.args.h (switch_entry (on_hart i.all.schedule c.args.h) x.slots))
    (here c).got
    (c.turn.ensures.place
    ∙ ap (λ (placed : List (ℕ × Entry)).
    place_in placed (switch_entry (entries_alone placed) c.index-2.result.now.slots)) (own c))

-- ---- within the image's own

pub returns-clause-domain : goal.returns-clause-domain
returns-clause-domain c =
    let i = image_from c.self.inside.image.now in
    let r = c.self.invariant.accepted in
    let entry =
    c.turn.ensures.entry
    ∙ ap (λ (placed : List (ℕ × Entry)).
    entry_of_slot (entries_alone placed) c.index-2.result.now.slots) (own c) in
    subst (λ (v : Raw × State). c.turn.result.entry.domain < length (image_of v).owns) c.self.view_is
    (subst (λ (e : Entry). IsDomain i e.domain) (sym entry) ((separated_on i r c.args.h (here c).below).named c.index-2.result.now.slots))

pub returns-clause-ended : goal.returns-clause-ended
returns-clause-ended c =
    let i = image_from c.self.inside.image.now in
    let ended = c.turn.ensures.ended
    ∙ ap (λ (placed : List (ℕ × Entry)).
    entry_in (entries_alone placed) (switch_entry (entries_alone placed) c.index-2.result.now.slots))
    (own c) in
    subst (λ (v : Raw × State). c.turn.result.ended.domain < length (image_of v).owns) c.self.view_is
    (ended_named i c.self.inside.state c.args.h c.index-2.result.now (here c) c.turn.result.ended ended)

pub returns-clause-within : goal.returns-clause-within
returns-clause-within c =
    let i = image_from c.self.inside.image.now in
    let r = c.self.invariant.accepted in
    let place =
    c.turn.ensures.place
    ∙ ap (λ (placed : List (ℕ × Entry)).
    place_in placed (switch_entry (entries_alone placed) c.index-2.result.now.slots)) (own c) in
    subst (λ (v : Raw × State). c.turn.result.place < length (image_of v).all.schedule) c.self.view_is
    (subst (λ (n : ℕ). n < length i.all.schedule) (sym place) (placed_switch i r c.args.h (here c).below c.index-2.result.now.slots).there)
