use Rattle.std.proofs.Common.{◌≡◌, ◌≢◌, true, ◌∙◌, ℕ, ◌+◌, ◌<◌, ◌≤◌, Some, None, ◌⊎◌, ap, add-one, slice_get, inl, inr, refl, sym, subst, arith}
use Rattle.std.proofs.Math.ListN.{set}
use Rattle.image_record.specs.Record.{Raw}
use Rattle.image_check.specs.Image.{Image, image_from}
use Rattle.guards.specs.declared.Guard.TheVariants as guard
use Rattle.world_view.specs.Machine.{guards_of}
use Rattle.hart_orders.specs.declared.hart.Hart.{Hart}
use Rattle.hart_set.specs.declared.set.State.{State}
use Rattle.hart_set.specs.declared.set.calls.Stride.{Stride}
use Rattle.hart_set.specs.declared.set.calls.Stride.TheVariants as stride
use Rattle.hart_set.specs.Reached.{IsReached}
use Rattle.hart_set.specs.Models.{image_of}
use Rattle.hart_set.specs.Slots.{NextStands, SlotEndsIn}
use Rattle.hart_set.proofs.Offs.{own_moments}
use Rattle.hart_set.proofs.Called.{Called, called, within, at_hart, to_value}
use Rattle.hart_set.proofs.Running.{StepEnd, GoesOn, IsOver}
use Rattle.hart_set.proofs.GoingOn.{domain_there, slot_read, before, end_fits, frames_few, runs_here, counted_here, gone_on, reached_on, gone_through, reached_through}
use Rattle.repl_policy.specs.Members.{any_rule, any_stands_for}
use Rattle.mem_system.specs.Contents.{system}
use Rattle.domain_step.specs.Moves.{MovesAlong}
use Rattle.hart_set.proofs.set.HartSet.advance.Goals.{then-slot-hart, else-slot-hart}
use Rattle.hart_set.proofs.set.HartSet.advance.Goals as goal

pub index_mut-hart-requires : goal.index_mut-hart-requires
index_mut-hart-requires c =
    let there =
    within c.self.inside.image.now c.self.inside.state c.args.self.now c.self.view_is c.args.h c.args.h
    refl c.requires.hart c.self.invariant in
    omega (arith, there)

-- the slot has not ended yet
pub until-until-requires : goal.until-until-requires
until-until-requires c =
    let t = c.self.inside.state in
    let x = c.index_mut-hart.result.now in
    let k =
    called c.self.inside.image.now t c.args.self.now c.self.view_is c.args.h c.requires.hart
    c.self.invariant x c.index_mut-hart.ensures.value in
    let inside = at_hart c.self.inside.image.now t c.args.self.now c.self.view_is c.args.h x _ k.got c.requires.inside in
    record { before = before (image_from c.self.inside.image.now) t c.args.h x k c.args.slot inside }

pub index_mut-requires : goal.index_mut-requires
index_mut-requires c =
    let t = c.self.inside.state in
    let x = c.index_mut-hart.result.now in
    let k =
    called c.self.inside.image.now t c.args.self.now c.self.view_is c.args.h c.requires.hart
    c.self.invariant x c.index_mut-hart.ensures.value in
    let inside = at_hart c.self.inside.image.now t c.args.self.now c.self.view_is c.args.h x _ k.got c.requires.inside in
    let there = domain_there (image_from c.self.inside.image.now) t c.args.h x k c.args.slot inside in
    omega (arith, there, c.from.ensures)

-- ---- what it is called with

call : (c : goal.After-run_until-arg-4-1)
    → Called (image_from c.self.inside.image.now) c.self.inside.state c.args.h c.index_mut-hart.result.now
call c =
    called c.self.inside.image.now c.self.inside.state c.args.self.now c.self.view_is c.args.h c.requires.hart c.self.invariant
    c.index_mut-hart.result.now c.index_mut-hart.ensures.value

inside : (c : goal.After-run_until-arg-4-1) → c.index_mut-hart.result.now.slot ≡ Some c.args.slot
inside c =
    at_hart c.self.inside.image.now c.self.inside.state c.args.self.now c.self.view_is c.args.h c.index_mut-hart.result.now
    (λ x. x.slot ≡ Some c.args.slot) (call c).got c.requires.inside

got : (c : goal.After-run_until-arg-4-1)
    → slice_get c.self.inside.state.domains.items c.args.slot.domain ≡ Some c.index_mut.result.now
got c =
    slot_read (image_from c.self.inside.image.now) c.self.inside.state c.args.h c.index_mut-hart.result.now (call c) c.args.slot (inside c)
    c.from.result c.index_mut.result.now c.from.ensures c.index_mut.ensures.value

pub run_until-ran-requires-clause-frames : goal.run_until-ran-requires-clause-frames
run_until-ran-requires-clause-frames c =
    frames_few (image_from c.self.inside.image.now) c.self.inside.state c.args.h c.index_mut-hart.result.now (call c) c.args.slot (inside c)

pub run_until-ran-requires-clause-runs : goal.run_until-ran-requires-clause-runs
run_until-ran-requires-clause-runs c =
    runs_here (image_from c.self.inside.image.now) c.self.inside.state c.args.h c.index_mut-hart.result.now (call c) c.args.slot (inside c)
    c.index_mut.result.now (got c)

pub run_until-ran-requires-clause-within : goal.run_until-ran-requires-clause-within
run_until-ran-requires-clause-within c = c.until-until.ensures.within

pub run_until-ran-requires-clause-end : goal.run_until-ran-requires-clause-end
run_until-ran-requires-clause-end c =
    end_fits (image_from c.self.inside.image.now) c.self.inside.state c.args.h c.index_mut-hart.result.now (call c) c.args.slot (inside c)

pub run_until-ran-requires-clause-few : goal.run_until-ran-requires-clause-few
run_until-ran-requires-clause-few c =
    counted_here (image_from c.self.inside.image.now) c.self.inside.state c.args.h c.index_mut-hart.result.now
    (call c) c.args.slot (inside c)
    c.index_mut.result.now (got c)

-- ---- what it leaves

called_then : (c : goal.Then-slot-hart)
    → Called (image_from c.self.inside.image.now) c.self.inside.state c.args.h c.index_mut-hart.result.now
called_then c =
    called c.self.inside.image.now c.self.inside.state c.args.self.now c.self.view_is c.args.h c.requires.hart c.self.invariant
    c.index_mut-hart.result.now c.index_mut-hart.ensures.value

pub overflow_add-hart : goal.overflow_add-hart
overflow_add-hart c =
    let few =
    at_hart c.self.inside.image.now c.self.inside.state c.args.self.now c.self.view_is c.args.h c.index_mut-hart.result.now
    (λ x. x.slots < 65536) (called_then c).got c.requires.slots in
    omega (arith, few)

here : (c : goal.Joined-slot-hart)
    → Called (image_from c.self.inside.image.now) c.self.inside.state c.args.h c.index_mut-hart.result.now
here c =
    called c.self.inside.image.now c.self.inside.state c.args.self.now c.self.view_is c.args.h c.requires.hart c.self.invariant
    c.index_mut-hart.result.now c.index_mut-hart.ensures.value

in_slot : (c : goal.Joined-slot-hart) → c.index_mut-hart.result.now.slot ≡ Some c.args.slot
in_slot c =
    at_hart c.self.inside.image.now c.self.inside.state c.args.self.now c.self.view_is c.args.h c.index_mut-hart.result.now
    (λ x. x.slot ≡ Some c.args.slot) (here c).got c.requires.inside

got_after : (c : goal.Joined-slot-hart)
    → slice_get c.self.inside.state.domains.items c.args.slot.domain ≡ Some c.index_mut.result.now
got_after c =
    slot_read (image_from c.self.inside.image.now) c.self.inside.state c.args.h c.index_mut-hart.result.now (here c) c.args.slot (in_slot c)
    c.from.result c.index_mut.result.now c.from.ensures c.index_mut.ensures.value

abbrev left : (c : goal.Joined-slot-hart) → StepEnd
left c = record {
  memory = c.run_until-ran.new.memory;
  mail = c.run_until-ran.new.mail;
  core = c.run_until-ran.new.core;
  l2 = c.run_until-ran.new.l2;
  domain = c.run_until-ran.new.domain;
  clock = c.run_until-ran.result.clock;
}

-- both ends
either : (c : goal.Joined-slot-hart) (P : Image → State → Type 0)
    → ((t' : State) (x' : Hart) → GoesOn c.self.inside.state c.args.h c.index_mut-hart.result.now c.args.slot (left c) t' x'
    ⊎ IsOver c.self.inside.state c.args.h c.index_mut-hart.result.now c.args.slot (left c) t' x'
    → P (image_from c.self.inside.image.now) t')
    → P (image_from c.if-slot-hart.self-inside.image.now) c.if-slot-hart.self-inside.state
either c P so = elim c.if-slot-hart.branch [
  | then-slot-hart w ↦
      subst (λ q. P (image_from q.image.now) q.state) (sym w.self-inside-is)
      (so _ (record { core = c.run_until-ran.new.core; clock = c.run_until-ran.result.clock; slots = c.index_mut-hart.result.now.slots + 1; slot = None; ended = c.index_mut-hart.result.now.ended })
      (inr (record {
        past = w.if-slot-hart.true;
        kept = record {
          memory = refl;
          mail = refl;
          l2 = refl;
          core = refl;
          clock = refl;
          slots = add-one c.index_mut-hart.result.now.slots;
          now_in = refl;
          ended = refl;
          off = refl;
          harts = refl;
          domains = ap (λ (d : ℕ). set c.self.inside.state.domains.items d c.run_until-ran.new.domain) c.from.ensures;
          used = refl;
        };
      })))
  | else-slot-hart w ↦
      subst (λ q. P (image_from q.image.now) q.state) (sym w.self-inside-is)
      (so _ (record {
        core = c.run_until-ran.new.core;
        clock = c.run_until-ran.result.clock;
        slots = c.index_mut-hart.result.now.slots;
        slot = c.index_mut-hart.result.now.slot;
        ended = c.index_mut-hart.result.now.ended;
      })
      (inl (record {
        soon = omega (arith, w.if-slot-hart.false);
        kept = record {
          memory = refl;
          mail = refl;
          l2 = refl;
          core = refl;
          clock = refl;
          slots = refl;
          now_in = in_slot c;
          ended = refl;
          off = refl;
          harts = refl;
          domains = ap (λ (d : ℕ). set c.self.inside.state.domains.items d c.run_until-ran.new.domain) c.from.ensures;
          used = refl;
        };
      })))
]

-- its events are counted up to the slot's end, and come past it
along_all : (c : goal.Joined-slot-hart) → c.args.stride ≡ stride.Slot
    → MovesAlong any_rule any_stands_for c.args.slot.end c.args.slot.end c.run_until-ran.result.events c.self.inside.state.memory
    c.self.inside.state.mail c.index_mut.result.now (system c.index_mut-hart.result.now.core c.self.inside.state.l2) c.index_mut-hart.result.now.clock
    (left c).memory (left c).mail (left c).domain (system (left c).core (left c).l2) (left c).clock
along_all c all =
    subst (λ (until : ℕ). MovesAlong any_rule any_stands_for c.args.slot.end until c.run_until-ran.result.events
    c.self.inside.state.memory c.self.inside.state.mail c.index_mut.result.now (system c.index_mut-hart.result.now.core c.self.inside.state.l2)
    c.index_mut-hart.result.now.clock (left c).memory (left c).mail (left c).domain (system (left c).core (left c).l2) (left c).clock)
    (c.until-until.ensures.slot all) c.run_until-ran.ensures.along

past_all : (c : goal.Joined-slot-hart) → c.args.stride ≡ stride.Slot → c.args.slot.end ≤ (left c).clock
past_all c all = let until = c.until-until.ensures.slot all in omega (arith, until, c.run_until-ran.ensures.over)

-- its own moments come
own : (c : goal.Joined-slot-hart) → (guards_of c.self.inside.state.off (image_from c.self.inside.image.now)).irq ≡ true
own c =
    let other = subst (λ (u : Raw × State). u.1.off ≢ Some guard.Irq) (sym c.self.view_is) c.requires.moments in
    sym (own_moments c.self.inside.state.off (image_from c.self.inside.image.now) other)

-- by one event or to the slot's end
strides : (s : Stride) → (s ≡ stride.Event) ⊎ (s ≡ stride.Slot)
strides stride.Event = inl refl
strides stride.Slot = inr refl

pub invariant_of-self : goal.invariant_of-self
invariant_of-self c =
    let i = image_from c.self.inside.image.now in
    let t = c.self.inside.state in
    let x = c.index_mut-hart.result.now in
    let y = c.index_mut.result.now in
    let slot = c.args.slot in
    let few =
    at_hart c.self.inside.image.now t c.args.self.now c.self.view_is c.args.h x (λ y. y.slots < 65536) (here c).got c.requires.slots in
    let counted = c.run_until-ran.ensures.few in
    let soon = c.run_until-ran.ensures.soon c.until-until.ensures.later in
    let later : x.clock < (left c).clock = omega (arith, c.until-until.ensures.later, c.run_until-ran.ensures.over) in
    elim (strides c.args.stride) [
      | inl one ↦
          either c IsReached (λ t' x' which.
          reached_on i t c.args.h x (here c) slot (in_slot c) y (got_after c) (left c) t' x' which
          (own c) (c.run_until-ran.ensures.once (c.until-until.ensures.event one)) few counted later soon)
      | inr all ↦
          either c IsReached (λ t' x' which.
          reached_through i t c.args.h x (here c) slot (in_slot c) y (got_after c) (left c) t' x' which
          (own c) c.run_until-ran.result.events (c.run_until-ran.ensures.whole (c.until-until.ensures.slot all))
          (along_all c all) (past_all c all) few counted later soon)
    ]

pub returns-clause-image : goal.returns-clause-image
returns-clause-image c =
    let same = ap (λ (v : Raw × State). v.0) c.self.view_is in
    elim c.if-slot-hart.branch [
      | then-slot-hart w ↦ ap (λ q. q.image.now) w.self-inside-is ∙ same
      | else-slot-hart w ↦ ap (λ q. q.image.now) w.self-inside-is ∙ same
    ]

pub returns-clause-off : goal.returns-clause-off
returns-clause-off c =
    let same = ap (λ (v : Raw × State). v.1.off) c.self.view_is in
    elim c.if-slot-hart.branch [
      | then-slot-hart w ↦ ap (λ q. q.state.off) w.self-inside-is ∙ same
      | else-slot-hart w ↦ ap (λ q. q.state.off) w.self-inside-is ∙ same
    ]

pub returns-clause-next : goal.returns-clause-next
returns-clause-next c one =
    let t = c.self.inside.state in
    either c (λ i t'. NextStands (image_of c.args.self.now) c.args.h c.args.self.now.1 t') (λ t' x' which.
    to_value c.self.inside.image.now t c.args.self.now c.self.view_is (λ (i : Image) (u : State). NextStands i c.args.h u t')
    (gone_on (image_from c.self.inside.image.now) t c.args.h c.index_mut-hart.result.now (here c) c.args.slot
    (in_slot c) c.index_mut.result.now (got_after c) (left c) t' x' which (own c)
    (c.run_until-ran.ensures.once (c.until-until.ensures.event one))))

pub returns-clause-ends : goal.returns-clause-ends
returns-clause-ends c all =
    let t = c.self.inside.state in
    either c (λ i t'. SlotEndsIn (image_of c.args.self.now) c.args.h c.run_until-ran.result.events c.args.self.now.1 t') (λ t' x' which.
    to_value c.self.inside.image.now t c.args.self.now c.self.view_is
    (λ (i : Image) (u : State). SlotEndsIn i c.args.h c.run_until-ran.result.events u t')
    (gone_through (image_from c.self.inside.image.now) t c.args.h c.index_mut-hart.result.now (here c) c.args.slot
    (in_slot c) c.index_mut.result.now (got_after c) (left c) t' x' which (own c) c.run_until-ran.result.events
    (c.run_until-ran.ensures.whole (c.until-until.ensures.slot all)) (along_all c all) (past_all c all)))

pub returns-clause-few : goal.returns-clause-few
returns-clause-few c =
    let soon = c.run_until-ran.ensures.soon c.until-until.ensures.later in
    let fits =
    end_fits (image_from c.self.inside.image.now) c.self.inside.state c.args.h c.index_mut-hart.result.now (here c) c.args.slot (in_slot c) in
    omega (arith, soon, fits, c.run_until-ran.ensures.apart)
