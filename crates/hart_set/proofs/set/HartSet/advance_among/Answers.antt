use Rattle.std.proofs.Common.{◌≡◌, ℕ, ◌+◌, ◌<◌, false, List, Some, None, length, add-one, refl, sym, ap, subst, subst₂, rules, arith}
use Rattle.std.proofs.Math.ListN.{set}
use Rattle.std.specs.Vec.{with_item, with_items}
use Rattle.image_record.specs.Record.{Raw}
use Rattle.guards.specs.declared.Guard.TheVariants as guard
use Rattle.mem_system.specs.Contents.{system}
use Rattle.image_check.specs.Image.{Image, image_from}
use Rattle.kernel_call.specs.declared.domain.Domain.{Domain}
use Rattle.world_view.specs.Machine.{guards_of, open_slot}
use Rattle.domain_step.specs.OpenSlot.{CountUpTo, Stands, Becomes}
use Rattle.domain_step.proofs.SwitchCounts.{written_back}
use Rattle.hart_orders.specs.declared.hart.Hart.{Hart}
use Rattle.hart_set.specs.declared.set.State.{State}
use Rattle.hart_set.specs.Slots.{SlotEnds}
use Rattle.hart_set.proofs.Offs.{own_moments_not}
use Rattle.hart_set.proofs.Called.{Called, s, called, within, at_hart, to_value}
use Rattle.hart_set.proofs.GoingOn.{domain_there, before, end_fits}
use Rattle.hart_set.proofs.Among.{AmongEnd, Ended, stands_here, ends_among, reached_among, is_first, few_here}
use Rattle.hart_set.proofs.set.HartSet.advance_among.Goals as goal

pub index_mut-hart-requires : goal.index_mut-hart-requires
index_mut-hart-requires c =
    let there = within c.self.inside.image.now c.self.inside.state c.args.self.now c.self.view_is c.args.h c.args.h refl c.requires.hart c.self.invariant in
    omega (arith, there)

-- moments of all domains come
all_of : (c : goal.After-open_slot-arg-4-1) → (guards_of c.self.inside.state.off (image_from c.self.inside.image.now)).irq ≡ false
all_of c =
    let off = subst (λ (u : Raw × State). u.1.off ≡ Some guard.Irq) (sym c.self.view_is) c.requires.moments in
    sym (own_moments_not c.self.inside.state.off (image_from c.self.inside.image.now) off)

call : (c : goal.After-open_slot-arg-4-1)
    → Called (image_from c.self.inside.image.now) c.self.inside.state c.args.h c.index_mut-hart.result.now
call c =
    called c.self.inside.image.now c.self.inside.state c.args.self.now c.self.view_is c.args.h c.requires.hart c.self.invariant
    c.index_mut-hart.result.now c.index_mut-hart.ensures.value

first : (c : goal.After-open_slot-arg-4-1) → c.args.h ≡ 0
first c = is_first (image_from c.self.inside.image.now) c.self.inside.state c.args.h c.index_mut-hart.result.now (call c) (all_of c)

-- the call, of the first hart
call_first : (c : goal.After-open_slot-arg-4-1)
    → Called (image_from c.self.inside.image.now) c.self.inside.state 0 c.index_mut-hart.result.now
call_first c =
    subst (λ (n : ℕ). Called (image_from c.self.inside.image.now) c.self.inside.state n c.index_mut-hart.result.now) (first c) (call c)

inside : (c : goal.After-open_slot-arg-4-1) → c.index_mut-hart.result.now.slot ≡ Some c.args.slot
inside c =
    at_hart c.self.inside.image.now c.self.inside.state c.args.self.now c.self.view_is c.args.h c.index_mut-hart.result.now
    (λ x. x.slot ≡ Some c.args.slot) (call c).got c.requires.inside

pub open_slot-hart-requires-clause-domain : goal.open_slot-hart-requires-clause-domain
open_slot-hart-requires-clause-domain c =
    let there = domain_there (image_from c.self.inside.image.now) c.self.inside.state c.args.h c.index_mut-hart.result.now (call c) c.args.slot (inside c) in
    let long = ap (λ (ds : List Domain). length ds) c.as_mut_slice.ensures.value in
    omega (arith, there, c.from.ensures, long)

pub open_slot-hart-requires-clause-end : goal.open_slot-hart-requires-clause-end
open_slot-hart-requires-clause-end c =
    end_fits (image_from c.self.inside.image.now) c.self.inside.state c.args.h c.index_mut-hart.result.now (call c) c.args.slot (inside c)

pub open_slot-hart-requires-clause-few : goal.open_slot-hart-requires-clause-few
open_slot-hart-requires-clause-few c =
    subst (CountUpTo c.index_mut-hart.result.now.clock) (sym c.as_mut_slice.ensures.value)
    (few_here (image_from c.self.inside.image.now) c.self.inside.state c.index_mut-hart.result.now (call_first c) (all_of c))

pub open_slot-hart-requires-clause-stands : goal.open_slot-hart-requires-clause-stands
open_slot-hart-requires-clause-stands c =
    let i = image_from c.self.inside.image.now in
    let t = c.self.inside.state in
    let x = c.index_mut-hart.result.now in
    subst₂ (λ (d : ℕ) (ds : List Domain). Stands d t.memory t.mail (system x.core t.l2) ds x.clock) (sym c.from.ensures) (sym c.as_mut_slice.ensures.value)
    (record {
      off = t.off;
      image = i;
      world = (s i t 0 x (call_first c)).world;
      stands = stands_here i t x (call_first c) c.args.slot (inside c);
    })

pub overflow_add-hart : goal.overflow_add-hart
overflow_add-hart c =
    let few =
    at_hart c.self.inside.image.now c.self.inside.state c.args.self.now c.self.view_is c.args.h c.index_mut-hart.result.now
    (λ x. x.slots < 65536) (called c.self.inside.image.now c.self.inside.state c.args.self.now c.self.view_is c.args.h c.requires.hart c.self.invariant
    c.index_mut-hart.result.now c.index_mut-hart.ensures.value).got c.requires.slots in
    omega (arith, few)

-- ---- what it leaves

abbrev AtEnd : Type 0
AtEnd = goal.After-self-2-1

all_of_here : (c : AtEnd) → (guards_of c.self.inside.state.off (image_from c.self.inside.image.now)).irq ≡ false
all_of_here c =
    let off = subst (λ (u : Raw × State). u.1.off ≡ Some guard.Irq) (sym c.self.view_is) c.requires.moments in
    sym (own_moments_not c.self.inside.state.off (image_from c.self.inside.image.now) off)

call_here : (c : AtEnd)
    → Called (image_from c.self.inside.image.now) c.self.inside.state c.args.h c.index_mut-hart.result.now
call_here c =
    called c.self.inside.image.now c.self.inside.state c.args.self.now c.self.view_is c.args.h c.requires.hart c.self.invariant
    c.index_mut-hart.result.now c.index_mut-hart.ensures.value

first_here : (c : AtEnd) → c.args.h ≡ 0
first_here c = is_first (image_from c.self.inside.image.now) c.self.inside.state c.args.h c.index_mut-hart.result.now (call_here c) (all_of_here c)

-- the call, of the first hart
call_first_here : (c : AtEnd)
    → Called (image_from c.self.inside.image.now) c.self.inside.state 0 c.index_mut-hart.result.now
call_first_here c =
    subst (λ (n : ℕ). Called (image_from c.self.inside.image.now) c.self.inside.state n c.index_mut-hart.result.now) (first_here c) (call_here c)

inside_here : (c : AtEnd) → c.index_mut-hart.result.now.slot ≡ Some c.args.slot
inside_here c =
    at_hart c.self.inside.image.now c.self.inside.state c.args.self.now c.self.view_is c.args.h c.index_mut-hart.result.now
    (λ x. x.slot ≡ Some c.args.slot) (call_here c).got c.requires.inside

abbrev hart_after : (c : AtEnd) → Hart
hart_after c = record {
  core = c.open_slot-hart.new.core;
  clock = c.open_slot-hart.result;
  slots = c.index_mut-hart.result.now.slots + 1;
  slot = None;
  ended = c.index_mut-hart.result.now.ended;
}

abbrev after : (c : AtEnd) → State
after c = record {
  off = c.self.inside.state.off;
  memory = c.open_slot-hart.new.memory;
  l2 = c.open_slot-hart.new.l2;
  harts = with_item c.self.inside.state.harts c.args.h (hart_after c);
  domains = with_items c.self.inside.state.domains c.open_slot-hart.new.domains;
  mail = c.open_slot-hart.new.mail;
  used = c.self.inside.state.used;
}

abbrev left : (c : AtEnd) → AmongEnd
left c = record {
  memory = c.open_slot-hart.new.memory;
  mail = c.open_slot-hart.new.mail;
  core = c.open_slot-hart.new.core;
  l2 = c.open_slot-hart.new.l2;
  domains = c.open_slot-hart.new.domains;
  clock = c.open_slot-hart.result;
}

kept : (c : AtEnd) → Ended c.self.inside.state 0 c.index_mut-hart.result.now (left c) (after c) (hart_after c)
kept c =
    let ds = c.self.inside.state.domains in
    let long : length c.open_slot-hart.new.domains ≡ ds.len = search rules in
    let was : length ds.items ≡ ds.len = search rules in
    record {
      off = refl;
      memory = refl;
      mail = refl;
      l2 = refl;
      core = refl;
      clock = refl;
      slots = add-one c.index_mut-hart.result.now.slots;
      now_in = refl;
      ended = refl;
      harts = ap (λ (n : ℕ). set c.self.inside.state.harts.items n (hart_after c)) (first_here c);
      domains = written_back c.open_slot-hart.new.domains ds.items ds.len long was;
      used = refl;
    }

becomes : (c : AtEnd) → Becomes (λ g j w. open_slot g j c.args.slot.domain c.args.slot.end w) c.args.slot.domain
    c.self.inside.state.memory c.self.inside.state.mail (system c.index_mut-hart.result.now.core c.self.inside.state.l2) c.self.inside.state.domains.items
    c.index_mut-hart.result.now.clock c.open_slot-hart.new.memory c.open_slot-hart.new.mail (system c.open_slot-hart.new.core c.open_slot-hart.new.l2)
    c.open_slot-hart.new.domains c.open_slot-hart.result
becomes c =
    let t = c.self.inside.state in
    let x = c.index_mut-hart.result.now in
    let z = left c in
    subst₂ (λ (d : ℕ) (ds : List Domain). Becomes (λ g j w. open_slot g j d c.args.slot.end w) d t.memory t.mail (system x.core t.l2) ds
    x.clock z.memory z.mail (system z.core z.l2) z.domains z.clock) c.from.ensures c.as_mut_slice.ensures.value c.open_slot-hart.ensures.becomes

ends : (c : AtEnd) → SlotEnds (image_from c.self.inside.image.now) c.args.h c.self.inside.state (after c)
ends c =
    subst (λ (n : ℕ). SlotEnds (image_from c.self.inside.image.now) n c.self.inside.state (after c)) (sym (first_here c))
    (ends_among (image_from c.self.inside.image.now) c.self.inside.state c.index_mut-hart.result.now (call_first_here c) c.args.slot (inside_here c)
    (left c) (becomes c) (all_of_here c) (after c) (hart_after c) (kept c))

pub invariant_of-self : goal.invariant_of-self
invariant_of-self c =
    let few =
    at_hart c.self.inside.image.now c.self.inside.state c.args.self.now c.self.view_is c.args.h c.index_mut-hart.result.now (λ x. x.slots < 65536) (call_here c).got c.requires.slots in
    let soon = before (image_from c.self.inside.image.now) c.self.inside.state c.args.h c.index_mut-hart.result.now (call_here c) c.args.slot (inside_here c) in
    reached_among (image_from c.self.inside.image.now) c.self.inside.state c.index_mut-hart.result.now (call_first_here c) c.args.slot (inside_here c)
    (left c) (becomes c) (all_of_here c) (after c) (hart_after c) (kept c) few c.open_slot-hart.ensures.few c.open_slot-hart.ensures.over
    (c.open_slot-hart.ensures.soon soon)

pub returns-clause-ends : goal.returns-clause-ends
returns-clause-ends c =
    to_value c.self.inside.image.now c.self.inside.state c.args.self.now c.self.view_is (λ (i : Image) (u : State). SlotEnds i c.args.h u (after c)) (ends c)

pub returns-clause-image : goal.returns-clause-image
returns-clause-image c = ap (λ (u : Raw × State). u.0) c.self.view_is

pub returns-clause-off : goal.returns-clause-off
returns-clause-off c = ap (λ (u : Raw × State). u.1.off) c.self.view_is
