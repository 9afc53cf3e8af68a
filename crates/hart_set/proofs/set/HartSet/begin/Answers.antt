use Rattle.std.proofs.Common.{◌≡◌, ◌∙◌, ℕ, suc, ◌+◌, ◌^◌, ◌<◌, ◌≤◌, ◌⊎◌, inl, inr, ◌++◌, ◌∷◌, [], List, Option, length, set, option_map, Some, None, refl, sym, ap, subst, rules, arith}
use Rattle.std.specs.Prelude.{slice_get, IfSome}
use Rattle.std.proofs.lemmas.Bool.{cases_lt}
use Rattle.guards.specs.declared.Guard.{Guard}
use Rattle.hart_orders.specs.declared.hart.Slot.{Slot}
use Rattle.std.specs.Option.{option_copied}
use Rattle.image_record.specs.Record.{Raw}
use Rattle.std.specs.Vec.{with_item, with_items}
use Rattle.kernel_clone.specs.Models.{layout_model}
use Rattle.sched_table.specs.Schedule.{on_hart, place_on, switch_entry, outgoing}
use Rattle.image_check.specs.Image.{Image, image_from}
use Rattle.world_view.specs.declared.used.Used.{Used}
use Rattle.world_view.specs.Mail.{switched_boxes}
use Rattle.world_view.specs.Machine.{guards_of, clone_by}
use Rattle.world_view.specs.Relations.{IsDomain}
use Rattle.domain_step.specs.Usage.{IsUsed, CountedUpTo}
use Rattle.domain_step.proofs.Elements.{each_set_kept}
use Rattle.domain_step.proofs.SwitchCounts.{noted_back, length_back}
use Rattle.hart_orders.specs.declared.hart.Hart.{Hart}
use Rattle.hart_set.specs.declared.set.State.{State}
use Rattle.hart_set.specs.Turns.{IsTurn}
use Rattle.hart_set.specs.Standing.{AtHart}
use Rattle.hart_set.specs.Slots.{NextStands, SlotEnds, SlotEndsIn}
use Rattle.hart_set.proofs.Called.{Called, called, at_hart, value_at, of_image, of_value, to_value, domain_read, within}
use Rattle.hart_set.proofs.Starting.{few_numbers, clock_early, few_slots, out_on, clone_on, counted_few, Switched, Entered, IsInside, IsPast, entered, reached_entered, through_begun, through_counted, ended_begun, set_there}
use Rattle.hart_set.proofs.set.HartSet.begin.Goals as goal

pub next_turn-turn-requires : goal.next_turn-turn-requires
next_turn-turn-requires c = record { hart = c.requires.hart }

pub leaving-leaving-requires : goal.leaving-leaving-requires
leaving-leaving-requires c = record {
  hart = c.requires.hart;
  ended = λ x got. (c.next_turn-turn.ensures.turn x got).ended;
  domain = c.next_turn-turn.ensures.ended;
}

pub clone_of-out-requires : goal.clone_of-out-requires
clone_of-out-requires c = record { there = c.leaving-leaving.ensures.there }

pub index-requires : goal.index-requires
index-requires c =
    let named =
    of_image c.self.inside.image.now c.self.inside.state c.args.self.now c.self.view_is
    (λ (i : Image). IsDomain i c.next_turn-turn.result.entry.domain)
    c.next_turn-turn.ensures.domain in
    omega (arith, named, c.from-d.ensures, c.self.invariant.stands.all_domains)

pub index_mut-hart-requires : goal.index_mut-hart-requires
index_mut-hart-requires c =
    let there =
    within c.self.inside.image.now c.self.inside.state c.args.self.now c.self.view_is c.args.h c.args.h
    refl c.requires.hart c.self.invariant in
    omega (arith, there)

-- ---- what the switch is called with

call : (c : goal.After-until_off)
    → Called (image_from c.self.inside.image.now) c.self.inside.state c.args.h c.index_mut-hart.result.now
call c =
    called c.self.inside.image.now c.self.inside.state c.args.self.now c.self.view_is c.args.h c.requires.hart c.self.invariant
    c.index_mut-hart.result.now c.index_mut-hart.ensures.value

between : (c : goal.After-until_off) → c.index_mut-hart.result.now.slot ≡ None
between c =
    at_hart c.self.inside.image.now c.self.inside.state c.args.self.now c.self.view_is c.args.h
    c.index_mut-hart.result.now
    (λ x. x.slot ≡ None) (call c).got c.requires.between

turn : (c : goal.After-until_off)
    → IsTurn (on_hart (image_from c.self.inside.image.now).all.schedule c.args.h) c.index_mut-hart.result.now.slots c.next_turn-turn.result
turn c =
    value_at c.self.inside.image.now c.self.inside.state c.args.self.now c.self.view_is c.args.h c.index_mut-hart.result.now
    (λ (i : Image) (x : Hart). IsTurn (on_hart i.all.schedule c.args.h) x.slots c.next_turn-turn.result)
    (call c).got c.next_turn-turn.ensures.turn

-- who leaves
left_by : (c : goal.After-until_off) → c.leaving-leaving.result
    ≡ outgoing (on_hart (image_from c.self.inside.image.now).all.schedule c.args.h) c.index_mut-hart.result.now.slots
left_by c =
    value_at c.self.inside.image.now c.self.inside.state c.args.self.now c.self.view_is c.args.h c.index_mut-hart.result.now
    (λ (i : Image) (x : Hart). c.leaving-leaving.result ≡ outgoing (on_hart i.all.schedule c.args.h) x.slots)
    (call c).got c.leaving-leaving.ensures.domain

leaves : (c : goal.After-until_off) → option_map layout_model (option_copied c.as_ref.result)
    ≡ clone_by (guards_of c.self.inside.state.off (image_from c.self.inside.image.now))
    (outgoing (on_hart (image_from c.self.inside.image.now).all.schedule c.args.h) c.index_mut-hart.result.now.slots)
leaves c =
    ap (option_map layout_model) c.as_ref.ensures.value
    ∙ of_value c.self.inside.image.now c.self.inside.state c.args.self.now c.self.view_is
    (λ (i : Image) (u : State). option_map layout_model c.clone_of-out.result
    ≡ clone_by (guards_of u.off i) c.leaving-leaving.result)
    c.clone_of-out.ensures.clone
    ∙ ap (clone_by (guards_of c.self.inside.state.off (image_from c.self.inside.image.now))) (left_by c)

named : (c : goal.After-until_off)
    → IsDomain (image_from c.self.inside.image.now) c.next_turn-turn.result.entry.domain
named c =
    of_image c.self.inside.image.now c.self.inside.state c.args.self.now c.self.view_is
    (λ (i : Image). IsDomain i c.next_turn-turn.result.entry.domain) c.next_turn-turn.ensures.domain

got : (c : goal.After-until_off)
    → slice_get c.self.inside.state.domains.items c.next_turn-turn.result.entry.domain
    ≡ Some c.index.result.now
got c =
    domain_read (image_from c.self.inside.image.now) c.self.inside.state c.self.invariant c.next_turn-turn.result.entry.domain (named c)
    c.from-d.result c.index.result.now c.from-d.ensures c.index.ensures

pub switch_off-switched-requires-clause-out : goal.switch_off-switched-requires-clause-out
switch_off-switched-requires-clause-out c =
    out_on (image_from c.self.inside.image.now) c.self.inside.state c.args.h c.index_mut-hart.result.now (call c) (between c)
    (option_copied c.as_ref.result) (leaves c)

pub switch_off-switched-requires-clause-into : goal.switch_off-switched-requires-clause-into
switch_off-switched-requires-clause-into c =
    clone_on (image_from c.self.inside.image.now) c.self.inside.state c.args.h c.index_mut-hart.result.now (call c) (between c)
    c.next_turn-turn.result.entry.domain c.index.result.now (named c) (got c)

pub switch_off-switched-requires-clause-early : goal.switch_off-switched-requires-clause-early
switch_off-switched-requires-clause-early c =
    let clock = clock_early (image_from c.self.inside.image.now) c.self.inside.state c.args.h c.index_mut-hart.result.now (call c) (between c) in
    let few = few_slots (image_from c.self.inside.image.now) c.self.inside.state c.args.h c.index_mut-hart.result.now (call c) (between c) in
    omega (arith, clock, few)

pub switch_off-switched-requires-clause-near : goal.switch_off-switched-requires-clause-near
switch_off-switched-requires-clause-near c = omega (arith, c.until_off.ensures.soon, c.next_turn-turn.ensures.soon)

-- ---- what its end and its count are called with

call_then : (c : goal.After-from)
    → Called (image_from c.self.inside.image.now) c.self.inside.state c.args.h c.index_mut-hart.result.now
call_then c =
    called c.self.inside.image.now c.self.inside.state c.args.self.now c.self.view_is c.args.h c.requires.hart c.self.invariant
    c.index_mut-hart.result.now c.index_mut-hart.ensures.value

between_then : (c : goal.After-from) → c.index_mut-hart.result.now.slot ≡ None
between_then c =
    at_hart c.self.inside.image.now c.self.inside.state c.args.self.now c.self.view_is c.args.h
    c.index_mut-hart.result.now
    (λ x. x.slot ≡ None) (call_then c).got c.requires.between

pub overflow_add-end : goal.overflow_add-end
overflow_add-end c =
    let clock = clock_early (image_from c.self.inside.image.now) c.self.inside.state c.args.h c.index_mut-hart.result.now (call_then c) (between_then c) in
    let few = few_slots (image_from c.self.inside.image.now) c.self.inside.state c.args.h c.index_mut-hart.result.now (call_then c) (between_then c) in
    let worked = c.switch_off-switched.ensures.few in
    omega (
      arith,
      clock,
      few,
      worked,
      c.begins_by.ensures.soon,
      c.until_off.ensures.soon,
      c.next_turn-turn.ensures.soon,
      c.next_turn-turn.ensures.length,
      c.from.ensures,
    )

pub settled-slots-requires : goal.settled-slots-requires
settled-slots-requires c =
    record {
      few =
          at_hart c.self.inside.image.now c.self.inside.state c.args.self.now c.self.view_is c.args.h c.index_mut-hart.result.now
          (λ x. x.slots < 65536) (called c.self.inside.image.now c.self.inside.state c.args.self.now c.self.view_is c.args.h c.requires.hart c.self.invariant
          c.index_mut-hart.result.now c.index_mut-hart.ensures.value).got c.requires.slots;
    }

-- ---- what its boxes are switched with

pub switch_boxes-requires : goal.switch_boxes-requires
switch_boxes-requires c =
    let i = image_from c.self.inside.image.now in
    let r = c.self.invariant.accepted in
    record {
      leaves =
          few_numbers i r c.leaving-leaving.result
          (of_image c.self.inside.image.now c.self.inside.state c.args.self.now c.self.view_is
          (λ (j : Image). IfSome c.leaving-leaving.result (IsDomain j)) c.leaving-leaving.ensures.there);
      enters =
          few_numbers i r (Some c.next_turn-turn.result.entry.domain)
          (of_image c.self.inside.image.now c.self.inside.state c.args.self.now c.self.view_is
          (λ (j : Image). IsDomain j c.next_turn-turn.result.entry.domain) c.next_turn-turn.ensures.domain);
    }

pub note_switch-requires-clause-entry : goal.note_switch-requires-clause-entry
note_switch-requires-clause-entry c =
    let within =
    of_image c.self.inside.image.now c.self.inside.state c.args.self.now c.self.view_is
    (λ (i : Image). c.next_turn-turn.result.place < length i.all.schedule)
    c.next_turn-turn.ensures.within in
    let long : length c.as_mut_slice.result.now ≡ length c.self.inside.state.used.items =
    ap (λ (us : List Used). length us) c.as_mut_slice.ensures.value in
    omega (arith, within, long, c.self.invariant.stands.all_entries)

call_noted : (c : goal.After-struct_known-1)
    → Called (image_from c.self.inside.image.now) c.self.inside.state c.args.h c.index_mut-hart.result.now
call_noted c =
    called c.self.inside.image.now c.self.inside.state c.args.self.now c.self.view_is c.args.h c.requires.hart c.self.invariant
    c.index_mut-hart.result.now c.index_mut-hart.ensures.value

between_noted : (c : goal.After-struct_known-1) → c.index_mut-hart.result.now.slot ≡ None
between_noted c =
    at_hart c.self.inside.image.now c.self.inside.state c.args.self.now c.self.view_is c.args.h
    c.index_mut-hart.result.now
    (λ x. x.slot ≡ None) (call_noted c).got c.requires.between

pub note_switch-requires-clause-few : goal.note_switch-requires-clause-few
note_switch-requires-clause-few c =
    subst (CountedUpTo (2 ^ 31)) (sym c.as_mut_slice.ensures.value)
    (counted_few (image_from c.self.inside.image.now) c.self.inside.state c.args.h c.index_mut-hart.result.now (call_noted c) (between_noted c))

-- ---- what it leaves

-- where the call ends
abbrev AtEnd : Type 0
AtEnd = goal.After-self-2-1

call_here : (c : AtEnd)
    → Called (image_from c.self.inside.image.now) c.self.inside.state c.args.h c.index_mut-hart.result.now
call_here c =
    called c.self.inside.image.now c.self.inside.state c.args.self.now c.self.view_is c.args.h c.requires.hart c.self.invariant
    c.index_mut-hart.result.now c.index_mut-hart.ensures.value

between_here : (c : AtEnd) → c.index_mut-hart.result.now.slot ≡ None
between_here c =
    at_hart c.self.inside.image.now c.self.inside.state c.args.self.now c.self.view_is c.args.h
    c.index_mut-hart.result.now
    (λ x. x.slot ≡ None) (call_here c).got c.requires.between

turn_here : (c : AtEnd)
    → IsTurn (on_hart (image_from c.self.inside.image.now).all.schedule c.args.h) c.index_mut-hart.result.now.slots c.next_turn-turn.result
turn_here c =
    value_at c.self.inside.image.now c.self.inside.state c.args.self.now c.self.view_is c.args.h c.index_mut-hart.result.now
    (λ (i : Image) (x : Hart). IsTurn (on_hart i.all.schedule c.args.h) x.slots c.next_turn-turn.result)
    (call_here c).got c.next_turn-turn.ensures.turn

left_by_here : (c : AtEnd) → c.leaving-leaving.result
    ≡ outgoing (on_hart (image_from c.self.inside.image.now).all.schedule c.args.h) c.index_mut-hart.result.now.slots
left_by_here c =
    value_at c.self.inside.image.now c.self.inside.state c.args.self.now c.self.view_is c.args.h c.index_mut-hart.result.now
    (λ (i : Image) (x : Hart). c.leaving-leaving.result ≡ outgoing (on_hart i.all.schedule c.args.h) x.slots)
    (call_here c).got c.leaving-leaving.ensures.domain

leaves_here : (c : AtEnd) → option_map layout_model (option_copied c.as_ref.result)
    ≡ clone_by (guards_of c.self.inside.state.off (image_from c.self.inside.image.now))
    (outgoing (on_hart (image_from c.self.inside.image.now).all.schedule c.args.h) c.index_mut-hart.result.now.slots)
leaves_here c =
    ap (option_map layout_model) c.as_ref.ensures.value
    ∙ of_value c.self.inside.image.now c.self.inside.state c.args.self.now c.self.view_is
    (λ (i : Image) (u : State). option_map layout_model c.clone_of-out.result
    ≡ clone_by (guards_of u.off i) c.leaving-leaving.result)
    c.clone_of-out.ensures.clone
    ∙ ap (clone_by (guards_of c.self.inside.state.off (image_from c.self.inside.image.now))) (left_by_here c)

named_here : (c : AtEnd)
    → IsDomain (image_from c.self.inside.image.now) c.next_turn-turn.result.entry.domain
named_here c =
    of_image c.self.inside.image.now c.self.inside.state c.args.self.now c.self.view_is
    (λ (i : Image). IsDomain i c.next_turn-turn.result.entry.domain) c.next_turn-turn.ensures.domain

got_here : (c : AtEnd)
    → slice_get c.self.inside.state.domains.items c.next_turn-turn.result.entry.domain
    ≡ Some c.index.result.now
got_here c =
    domain_read (image_from c.self.inside.image.now) c.self.inside.state c.self.invariant c.next_turn-turn.result.entry.domain (named_here c)
    c.from-d.result c.index.result.now c.from-d.ensures c.index.ensures

abbrev off_of : (c : AtEnd) → Option Guard
off_of c = c.self.inside.state.off

abbrev hart_after : (c : AtEnd) → Hart
hart_after c = record {
  core = c.switch_off-switched.new.core;
  clock = c.switch_off-switched.result.now;
  slots = c.settled-slots.result.0;
  slot = c.settled-slots.result.1;
  ended = c.begins_by.result + c.from.result;
}

abbrev after : (c : AtEnd) → State
after c = record {
  off = c.self.inside.state.off;
  memory = c.self.inside.state.memory;
  l2 = c.switch_off-switched.new.l2;
  harts = with_item c.self.inside.state.harts c.args.h (hart_after c);
  domains = c.self.inside.state.domains;
  mail = c.switch_boxes.new.mail;
  used = with_items c.self.inside.state.used c.note_switch.new.used;
}

switched : (c : AtEnd)
    → Switched (image_from c.self.inside.image.now) c.self.inside.state c.args.h c.index_mut-hart.result.now
    (call_here c) (between_here c) c.next_turn-turn.result (turn_here c) c.parts_off.result.loads c.parts_off.result.flushes
    (option_copied c.as_ref.result) c.index.result.now.layout c.until_off.result
    c.switch_off-switched.new.core c.switch_off-switched.new.l2 c.switch_off-switched.result.used c.switch_off-switched.result.now
switched c =
    let i = image_from c.self.inside.image.now in
    record {
      loads_is = c.parts_off.ensures.loads i;
      flushes_is = c.parts_off.ensures.flushes i;
      padded = c.until_off.ensures.waits i;
      unpadded = c.until_off.ensures.waits_not i;
      levels = c.switch_off-switched.ensures.hierarchy;
      pinned = c.switch_off-switched.ensures.pinned;
      work = c.switch_off-switched.ensures.work;
      clock = c.switch_off-switched.ensures.clock;
      kept = c.switch_off-switched.ensures.kept;
    }

end_is : (c : AtEnd) → c.begins_by.result + c.from.result ≡ c.begins_by.result + c.next_turn-turn.result.entry.length
end_is c = ap (λ (n : ℕ). c.begins_by.result + n) c.from.ensures

kept : (c : AtEnd)
    → Entered (image_from c.self.inside.image.now) c.self.inside.state c.args.h c.index_mut-hart.result.now
    (call_here c) (between_here c) c.next_turn-turn.result (turn_here c)
    c.switch_off-switched.new.core c.switch_off-switched.new.l2 c.switch_off-switched.result.used c.switch_off-switched.result.now
    (c.begins_by.result + c.next_turn-turn.result.entry.length) (after c) (hart_after c)
kept c =
    let used = c.self.inside.state.used in
    let i = image_from c.self.inside.image.now in
    let x = c.index_mut-hart.result.now in
    let long : length c.note_switch.new.used ≡ used.len = search rules in
    let was : length used.items ≡ used.len = search rules in
    let place =
    value_at c.self.inside.image.now c.self.inside.state c.args.self.now c.self.view_is c.args.h x
    (λ (j : Image) (y : Hart). c.next_turn-turn.result.place
    ≡ place_on j.all.schedule c.args.h (switch_entry (on_hart j.all.schedule c.args.h) y.slots))
    (call_here c).got c.next_turn-turn.ensures.place in
    let noted : (us : List (ℕ × ℕ)) → IsUsed used.items us
    → IsUsed c.note_switch.new.used (us ++ (c.next_turn-turn.result.place, c.switch_off-switched.result.used) ∷ []) =
    rw c.as_mut_slice.ensures.value at c.note_switch.ensures.noted in
    record {
      off = refl;
      memory = refl;
      mail =
          c.switch_boxes.ensures.switched
          ∙ ap (λ (o : Option ℕ). switched_boxes o c.next_turn-turn.result.entry.domain c.self.inside.state.mail) (left_by_here c);
      l2 = refl;
      core = refl;
      clock = refl;
      ended = end_is c;
      harts = refl;
      domains = refl;
      long = length_back used.items c.note_switch.new.used used.len long was;
      noted = noted_back used.items c.note_switch.new.used used.len long was c.next_turn-turn.result.place
          (place_on i.all.schedule c.args.h (switch_entry (on_hart i.all.schedule c.args.h) x.slots))
          c.switch_off-switched.result.used c.switch_off-switched.result.used
          place refl noted;
    }

abbrev Inside : (c : AtEnd) → Type 0
Inside c =
    IsInside (image_from c.self.inside.image.now) c.self.inside.state c.args.h c.index_mut-hart.result.now
    (call_here c) (between_here c) c.next_turn-turn.result (turn_here c) c.switch_off-switched.result.now
    (c.begins_by.result + c.next_turn-turn.result.entry.length) (hart_after c)

abbrev Past : (c : AtEnd) → Type 0
Past c =
    IsPast (image_from c.self.inside.image.now) c.self.inside.state c.args.h c.index_mut-hart.result.now
    (call_here c) (between_here c) c.next_turn-turn.result (turn_here c) c.switch_off-switched.result.now
    (c.begins_by.result + c.next_turn-turn.result.entry.length) (hart_after c)

-- it is in the slot, or that is over
which : (c : AtEnd) → Inside c ⊎ Past c
which c =
    let now = c.switch_off-switched.result.now in
    let end = c.begins_by.result + c.from.result in
    elim (cases_lt now end) [
      | inl early ↦
          let is = c.settled-slots.ensures.inside early in
          inl (record {
            early = subst (λ (n : ℕ). now < n) (end_is c) early;
            slots = ap (λ (p : ℕ × Option Slot). p.0) is;
            slot =
                ap (λ (p : ℕ × Option Slot). p.1) is
                ∙ ap (λ (n : ℕ). Some (record { domain = c.next_turn-turn.result.entry.domain; end = n })) (end_is c);
          })
      | inr late ↦
          let is = c.settled-slots.ensures.over late in
          inr (record {
            late = subst (λ (n : ℕ). n ≤ now) (end_is c) late;
            slots = ap (λ (p : ℕ × Option Slot). p.0) is;
            slot = ap (λ (p : ℕ × Option Slot). p.1) is;
          })
    ]

next : (c : AtEnd) → NextStands (image_from c.self.inside.image.now) c.args.h c.self.inside.state (after c)
next c =
    let i = image_from c.self.inside.image.now in
    entered (image_from c.self.inside.image.now) c.self.inside.state c.args.h c.index_mut-hart.result.now
    (call_here c) (between_here c) c.next_turn-turn.result (turn_here c) c.parts_off.result.loads c.parts_off.result.flushes
    (option_copied c.as_ref.result) c.index.result.now (got_here c) (leaves_here c) c.until_off.result
    c.switch_off-switched.new.core c.switch_off-switched.new.l2 c.switch_off-switched.result.used
    c.switch_off-switched.result.now (switched c)
    c.begins_by.result (c.begins_by.ensures.padded i) (c.begins_by.ensures.unpadded i)
    (after c) (hart_after c) (kept c) (which c)

few : (c : AtEnd) → c.index_mut-hart.result.now.slots < 65536
few c =
    at_hart c.self.inside.image.now c.self.inside.state c.args.self.now c.self.view_is c.args.h
    c.index_mut-hart.result.now (λ x. x.slots < 65536) (call_here c).got
    c.requires.slots

pub invariant_of-self : goal.invariant_of-self
invariant_of-self c =
    let i = image_from c.self.inside.image.now in
    let worked = c.switch_off-switched.ensures.few in
    let waits = c.until_off.ensures.soon in
    let x = c.index_mut-hart.result.now in
    reached_entered (image_from c.self.inside.image.now) c.self.inside.state c.args.h c.index_mut-hart.result.now
    (call_here c) (between_here c) c.next_turn-turn.result (turn_here c) c.parts_off.result.loads c.parts_off.result.flushes
    (option_copied c.as_ref.result) c.index.result.now (got_here c) (leaves_here c) c.until_off.result
    c.switch_off-switched.new.core c.switch_off-switched.new.l2 c.switch_off-switched.result.used
    c.switch_off-switched.result.now (switched c)
    c.begins_by.result (c.begins_by.ensures.padded i) (c.begins_by.ensures.unpadded i)
    (after c) (hart_after c) (kept c) (which c)
    (few c) c.switch_off-switched.ensures.later (omega (arith, worked, waits)) c.next_turn-turn.ensures.soon
    c.begins_by.ensures.soon c.next_turn-turn.ensures.length

pub returns-clause-next : goal.returns-clause-next
returns-clause-next c =
    to_value c.self.inside.image.now c.self.inside.state c.args.self.now c.self.view_is
    (λ (i : Image) (u : State). NextStands i c.args.h u (after c)) (next c)

pub returns-clause-image : goal.returns-clause-image
returns-clause-image c = ap (λ (u : Raw × State). u.0) c.self.view_is

pub returns-clause-off : goal.returns-clause-off
returns-clause-off c = ap (λ (u : Raw × State). u.1.off) c.self.view_is

-- the hart is the one that it leaves there
there : (c : AtEnd) → c.args.h < length c.self.inside.state.harts.items
there c = within c.self.inside.image.now c.self.inside.state c.args.self.now c.self.view_is c.args.h c.args.h refl c.requires.hart c.self.invariant

placed : (c : AtEnd) (x : Hart)
    → slice_get (set c.self.inside.state.harts.items c.args.h (hart_after c)) c.args.h ≡ Some x
    → hart_after c ≡ x
placed c x got =
    let h = c.args.h in
    each_set_kept (λ (j : ℕ) (y : Hart). j ≡ h → hart_after c ≡ y) c.self.inside.state.harts.items h
    (hart_after c) (there c)
    (λ same. refl) (λ j y apart was same. absurd (apart same)) h x got refl

left_there : (c : AtEnd) → slice_get (after c).harts.items c.args.h ≡ Some (hart_after c)
left_there c = set_there c.self.inside.state.harts.items c.args.h (hart_after c) (there c)

-- what is left of the slot that it answers
answers : (c : AtEnd) (o : Option Slot) → o ≡ c.settled-slots.result.1 → Inside c ⊎ Past c
    → (P : Slot → Type 0) → ((y : Slot) → Some y ≡ c.settled-slots.result.1 → Inside c → P y) → IfSome o P
answers c None is which P so = tt
answers c (Some y) is (inl in_it) P so = so y is in_it
answers c (Some y) is (inr past) P so = absurd (cc (is, past.slot))

pub returns-clause-inside : goal.returns-clause-inside
returns-clause-inside c =
    answers c c.settled-slots.result.1 refl (which c) (λ slot. AtHart (after c) c.args.h (λ x. x.slot ≡ Some slot))
    (λ y is in_it x got. subst (λ (z : Hart). z.slot ≡ Some y) (placed c x got) (sym is))

pub returns-clause-slots : goal.returns-clause-slots
returns-clause-slots c =
    answers c c.settled-slots.result.1 refl (which c) (λ slot. AtHart (after c) c.args.h (λ x. x.slots < 65536))
    (λ y is in_it x got. subst (λ (z : Hart). z.slots < 65536) (placed c x got) (subst (λ (n : ℕ). n < 65536) (sym in_it.slots) (few c)))

pub returns-clause-rest : goal.returns-clause-rest
returns-clause-rest c =
    to_value c.self.inside.image.now c.self.inside.state c.args.self.now c.self.view_is
    (λ (i : Image) (u : State). IfSome c.settled-slots.result.1 (λ slot. (later : State) → c.self.inside.state.off ≡ later.off
    → SlotEnds i c.args.h (after c) later → SlotEnds i c.args.h u later))
    (answers c c.settled-slots.result.1 refl (which c) (λ slot. (later : State) → c.self.inside.state.off ≡ later.off
    → SlotEnds (image_from c.self.inside.image.now) c.args.h (after c) later
    → SlotEnds (image_from c.self.inside.image.now) c.args.h c.self.inside.state later)
    (λ y is in_it later same ends.
    through_begun (image_from c.self.inside.image.now) c.self.inside.state (after c) later c.args.h c.index_mut-hart.result.now
    (hart_after c) (call_here c).below (call_here c).got (left_there c) in_it.slots refl same (next c) ends))

pub returns-clause-counted : goal.returns-clause-counted
returns-clause-counted c =
    to_value c.self.inside.image.now c.self.inside.state c.args.self.now c.self.view_is
    (λ (i : Image) (u : State). IfSome c.settled-slots.result.1 (λ slot. (later : State) (events : ℕ) → c.self.inside.state.off ≡ later.off
    → SlotEndsIn i c.args.h events (after c) later → SlotEndsIn i c.args.h (suc events) u later))
    (answers c c.settled-slots.result.1 refl (which c) (λ slot. (later : State) (events : ℕ) → c.self.inside.state.off ≡ later.off
    → SlotEndsIn (image_from c.self.inside.image.now) c.args.h events (after c) later
    → SlotEndsIn (image_from c.self.inside.image.now) c.args.h (suc events) c.self.inside.state later)
    (λ y is in_it later events same ends.
    through_counted (image_from c.self.inside.image.now) c.self.inside.state (after c) later c.args.h c.index_mut-hart.result.now
    (hart_after c) (call_here c).below (call_here c).got (left_there c) in_it.slots refl same (next c) events ends))

over_if : (c : AtEnd) → Inside c ⊎ Past c → c.settled-slots.result.1 ≡ None
    → SlotEndsIn (image_from c.self.inside.image.now) c.args.h 1 c.self.inside.state (after c)
over_if c (inl in_it) none = absurd (cc (none, in_it.slot))
over_if c (inr past) none =
    ended_begun (image_from c.self.inside.image.now) c.self.inside.state (after c) c.args.h c.index_mut-hart.result.now (hart_after c)
    (call_here c).got (left_there c) past.slots past.slot refl (next c)

pub returns-clause-over : goal.returns-clause-over
returns-clause-over c none =
    to_value c.self.inside.image.now c.self.inside.state c.args.self.now c.self.view_is
    (λ (i : Image) (u : State). SlotEndsIn i c.args.h 1 u (after c)) (over_if c (which c) none)
