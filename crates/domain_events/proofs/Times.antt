-- What the events of a domain alone add up to, and what each takes.
use Rattle.std.proofs.Common.{◌≡◌, ℕ, zero, suc, ◌+◌, ◌-◌, ◌<◌, ◌≤◌, Bool, true, false, eqb, ltb, ltb-true, eqb-true, List, [], ◌∷◌, ◌++◌, ap, sym, refl, subst, arith}
use Rattle.std.specs.Prelude.{if◌then◌else◌, sum_by}
use Rattle.std.specs.List.{All}
use Rattle.std.proofs.lemmas.List.{length_push}
use Rattle.std.proofs.lemmas.List.Elements.{All-nil, All-cons, All-push, All-weaker}
use Rattle.std.proofs.lemmas.List.Sums.{sum_by-cons}
use Rattle.std.proofs.lemmas.List.Quantifiers.{all_pairs_push}
use Rattle.mem_system.proofs.TallyPrices.{price_of_all_law}
use Rattle.hardware_check.specs.Hardware.{Hardware}
use Rattle.sched_table.specs.Schedule.{entry_of_slot, slot_end}
use Rattle.mail_slots.specs.Sides.{Arrival}
use Rattle.image_check.specs.Public.{Public}
use Rattle.image_check.specs.Own.{Own}
use Rattle.world_view.specs.Cost.{hierarchy}
use Rattle.world_view.specs.Kernel.{estate, layout}
use Rattle.world_view.specs.Mail.{turns, nth_of}
use Rattle.world_view.specs.Event.{instruction, delivery_touches, Event, event}
use Rattle.world_view.specs.Event.Event.{Jump, Deliver, Run}
use Rattle.world_view.specs.Machine.{Setting, setting, Local, paid, delivered, happened, step, steps, stretch, alone_enter, alone_in, alone_mail}
use Rattle.world_view.proofs.steps.Fuel.{IsTimed, JumpsPast, event_later, step_later}
use Rattle.world_view.proofs.opening.Separate.{separated}
use Rattle.image_check.specs.Image.{own_of}
use Rattle.world_view.specs.Harts.{public_on}
use Rattle.std.proofs.lemmas.Bool.{ltb-false}
use Rattle.domain_events.specs.Events.{Observed, Slot, happening, counted, observed, events_in, events_until, slot_from, slots_mailed}
use Rattle.domain_events.specs.Laws.{Follow, AddsUp, clock_alone, CyclesLaw, Fills, FillsLaw, IsOwnSlot, AreOwnSlots, OwnSlotsLaw, Takes, PriceLaw}
use Rattle.domain_events.proofs.Alone.{one_slot_more, no_slot_more}

-- ---- one event

-- no event turns the clock back
module _ (w : Setting) where
  happened_after : (s : Local) (e : Event) → JumpsPast s.clock e → s.clock ≤ (happened w s e).clock
  unfolding happened paid delivered
  happened_after s (Jump t) past = omega (arith, past)
  happened_after s (Deliver line) past = omega arith
  happened_after s Run past = omega arith

  pub step_after : (end : ℕ) (s : Local) → s.clock < end → s.clock ≤ (step w end s).clock
  unfolding step
  step_after end s soon =
      happened_after s (event w.own s.clock end s.dom) (event_later w.own s.clock end s.dom soon)

-- what it takes
module _ (p : Hardware) (o : Own) (pinned : Bool) where
  abbrev w : Setting
  w = setting p o pinned

  -- as it is seen
  abbrev seen : Local → Event → Observed
  seen s e = record {
    at = s.clock;
    what = happening s.dom e;
    cycles = (happened w s e).clock - s.clock;
    counts = counted w s e;
  }

  takes_if : (s : Local) (e : Event) → JumpsPast s.clock e → Takes p.costs (seen s e)
  unfolding happening counted happened paid delivered hierarchy
  takes_if s (Jump t) past = (omega (arith, past), refl)
  takes_if s (Deliver line) past =
      let cost = price_of_all_law (hierarchy p) pinned s.caches (delivery_touches p (layout p o)) in omega (arith, cost)
  takes_if s Run past =
      let cost =
      price_of_all_law (hierarchy p) pinned s.caches (instruction p (estate p o) (layout p o) s.clock s.dom s.storage).notes in
      omega (arith, cost)

  pub takes : (end : ℕ) (s : Local) → s.clock < end → Takes p.costs (observed w end s)
  unfolding observed step
  takes end s soon = takes_if s (event o s.clock end s.dom) (event_later o s.clock end s.dom soon)

-- ---- a stretch

module _ (w : Setting) (end : ℕ) where
  follow_if : (P : List Observed → Local → Type 0) (b : Bool) (xs : List Observed) (x y : Local) → (b ≡ true → P xs x)
      → P [] y → P (if b then xs else []) (elim b [ true ↦ x | false ↦ y ])
  follow_if P true xs x y goes stops = goes refl
  follow_if P false xs x y goes stops = stops

  pub follow_in : (n : ℕ) (s : Local) → Follow s.clock (events_in w end n s) (steps w end n s).clock
  unfolding events_in steps observed
  follow_in zero s = refl
  follow_in (suc n) s =
      let next = step w end s in
      follow_if (λ (events : List Observed) (last : Local). Follow s.clock events last.clock) (ltb s.clock end)
      (observed w end s ∷ events_in w end n next) (steps w end n next) s
      (λ t. let after = step_after w end s (ltb-true s.clock end t) in
      let goes : next.clock ≡ s.clock + (next.clock - s.clock) = omega (arith, after) in
      (refl, subst (λ (now : ℕ). Follow now (events_in w end n next) (steps w end n next).clock) goes (follow_in n next)))
      refl

  -- what holds of each event before the end holds of all
  module _ (P : Observed → Type 0) (each : (s : Local) → s.clock < end → P (observed w end s)) where
    all_if : (b : Bool) (s : Local) (rest : List Observed) → ltb s.clock end ≡ b → All P rest
        → All P (if b then observed w end s ∷ rest else [])
    all_if true s rest t all = All-cons P (observed w end s) rest (each s (ltb-true s.clock end t)) all
    all_if false s rest t all = All-nil P

    pub all_in : (n : ℕ) (s : Local) → All P (events_in w end n s)
    unfolding events_in
    all_in zero s = All-nil P
    all_in (suc n) s =
        all_if (ltb s.clock end) s (events_in w end n (step w end s)) refl (all_in n (step w end s))

abbrev pub cycles_in : List Observed → ℕ
cycles_in events = sum_by (λ e. e.cycles) events

pub adds : (events : List Observed) (now end : ℕ) → Follow now events end → now + cycles_in events ≡ end
adds [] now end follow = omega (arith, follow)
adds (e ∷ events) now end follow =
    let rest = adds events (now + e.cycles) end follow.1 in
    let one = sum_by-cons (λ (x : Observed). x.cycles) e events in
    omega (arith, rest, one)

-- a front of them ends where the next begins
pub follow_front : (events : List Observed) (now end : ℕ) (e : Observed) (rest : List Observed)
    → Follow now (events ++ e ∷ rest) end → Follow now events e.at
follow_front [] now end e rest follow = sym follow.0
follow_front (x ∷ events) now end e rest follow = (follow.0, follow_front events (now + x.cycles) end e rest follow.1)

-- steps go on until the end
module _ (w : Setting) (timed : IsTimed w.machine) (end : ℕ) where
  reach_if : (b : Bool) (x y : Local) → (b ≡ true → end ≤ x.clock) → (b ≡ false → end ≤ y.clock)
      → let last : Local = elim b [ true ↦ x | false ↦ y ] in end ≤ last.clock
  reach_if true x y goes stops = goes refl
  reach_if false x y goes stops = stops refl

  pub reaches : (n : ℕ) (s : Local) → end - s.clock ≤ n → end ≤ (steps w end n s).clock
  unfolding steps
  reaches zero s few = omega (arith, few)
  reaches (suc n) s few =
      reach_if (ltb s.clock end) (steps w end n (step w end s)) s
      (λ t. let later = step_later w timed end s (ltb-true s.clock end t) in
      reaches n (step w end s) (omega (arith, few, later)))
      (λ t. ltb-false s.clock end t)

-- ---- slots

module _ (p : Public) (o : Own) (d : ℕ) (came : List Arrival) where
  -- as slot k begins, if it is its own
  abbrev pub entered : ℕ → Local
  entered k = alone_enter p o k (nth_of came (turns p.schedule d k)) (alone_mail p o d came k)

  abbrev pub slot : ℕ → Slot
  slot k = slot_from p o k (entered k)

  abbrev its : ℕ → Bool
  its k = eqb (entry_of_slot p.schedule k).domain d

  -- what holds of each slot of its own
  module _ (P : Slot → Type 0) (each : (k : ℕ) → P (slot k)) where
    all_with : (b : Bool) (k : ℕ) → its k ≡ b → All P (slots_mailed p o d came k) → All P (slots_mailed p o d came (suc k))
    all_with true k t all = subst (All P) (sym (one_slot_more p o d came k t)) (All-push P (slots_mailed p o d came k) (slot k) all (each k))
    all_with false k t all = subst (All P) (sym (no_slot_more p o d came k t)) all

    pub all_slots : (k : ℕ) → All P (slots_mailed p o d came k)
    unfolding slots_mailed
    all_slots zero = All-nil P
    all_slots (suc k) = all_with (its k) k refl (all_slots k)

  adds_up : (k : ℕ) → AddsUp (clock_alone p o d came k) (slot k)
  unfolding alone_in slot_from
  adds_up k =
      let end = slot_end p.schedule k in
      let s = entered k in
      let follow = follow_in (setting p.hardware o true) end (end - s.clock) s in
      record { follow = follow; sum = adds (events_until (setting p.hardware o true) end s) s.clock _ follow }

  cycles_of_slot : (k : ℕ) → AddsUp (clock_alone p o d came (slot k).number) (slot k)
  unfolding slot_from
  cycles_of_slot k = adds_up k

  prices_of_slot : (k : ℕ) → All (Takes p.hardware.costs) (slot k).events
  unfolding slot_from
  prices_of_slot k =
      let end = slot_end p.schedule k in
      let s = entered k in
      all_in (setting p.hardware o true) end (Takes p.hardware.costs) (takes p.hardware o true end) (end - s.clock) s

  early_of_slot : (k : ℕ) → All (λ (e : Observed). e.at < slot_end p.schedule (slot k).number) (slot k).events
  unfolding slot_from observed
  early_of_slot k =
      let end = slot_end p.schedule k in
      let s = entered k in
      all_in (setting p.hardware o true) end (λ (e : Observed). e.at < end) (λ t soon. soon) (end - s.clock) s

  fills : IsTimed p.hardware → (k : ℕ) → Fills p (slot k)
  unfolding slot_from
  fills timed k =
      let w = setting p.hardware o true in
      let end = slot_end p.schedule k in
      let s = entered k in
      let sum = adds (events_until w end s) s.clock (stretch w end s).clock (follow_in w end (end - s.clock) s) in
      let far = reaches w timed end (end - s.clock) s (omega arith) in
      record { early = early_of_slot k; full = omega (arith, sum, far) }

  pub all_fill : IsTimed p.hardware → (k : ℕ) → All (Fills p) (slots_mailed p o d came k)
  all_fill timed = all_slots (Fills p) (fills timed)

  -- ---- which they are

  own_slot : (k : ℕ) → its k ≡ true → IsOwnSlot p d (suc k) (slot k)
  unfolding slot_from alone_enter
  own_slot k t = record { before = omega arith; own = eqb-true (entry_of_slot p.schedule k).domain d t; begins = refl }

  later_slot : (k : ℕ) (x : Slot) → IsOwnSlot p d k x → IsOwnSlot p d (suc k) x
  later_slot k x is = let before = is.before in record { before = omega (arith, before); own = is.own; begins = is.begins }

  turns_if : (b : Bool) (k : ℕ) → its k ≡ b
      → turns p.schedule d (suc k) ≡ (if b then suc (turns p.schedule d k) else turns p.schedule d k)
  unfolding turns
  turns_if b k t = ap (λ (c : Bool). if c then suc (turns p.schedule d k) else turns p.schedule d k) t

  own_with : (b : Bool) (k : ℕ) → its k ≡ b → AreOwnSlots p d k (slots_mailed p o d came k)
      → AreOwnSlots p d (suc k) (slots_mailed p o d came (suc k))
  unfolding slot_from
  own_with true k t are =
      let count = are.count in
      let more = turns_if true k t in
      let one = length_push (slots_mailed p o d came k) (slot k) in
      subst (AreOwnSlots p d (suc k)) (sym (one_slot_more p o d came k t)) (record {
        each = All-push (IsOwnSlot p d (suc k)) (slots_mailed p o d came k) (slot k)
            (All-weaker (IsOwnSlot p d k) (IsOwnSlot p d (suc k)) (later_slot k) (slots_mailed p o d came k) are.each) (own_slot k t);
        ascend = all_pairs_push (λ (x y : Slot). x.number < y.number) (slots_mailed p o d came k) (slot k) are.ascend
            (λ n x l. (are.each n x l).before);
        count = omega (arith, one, count, more);
      })
  own_with false k t are =
      let count = are.count in
      let same = turns_if false k t in
      subst (AreOwnSlots p d (suc k)) (sym (no_slot_more p o d came k t)) (record {
        each = All-weaker (IsOwnSlot p d k) (IsOwnSlot p d (suc k)) (later_slot k) (slots_mailed p o d came k) are.each;
        ascend = are.ascend;
        count = omega (arith, count, same);
      })

  own_slots : (k : ℕ) → AreOwnSlots p d k (slots_mailed p o d came k)
  unfolding slots_mailed turns
  own_slots zero = record { each = All-nil (IsOwnSlot p d 0); ascend = λ i j x lt within. absurd (omega (arith, within)); count = refl }
  own_slots (suc k) = own_with (its k) k refl (own_slots k)

pub cycles_law : CyclesLaw
cycles_law p o d came = all_slots p o d came (λ (x : Slot). AddsUp (clock_alone p o d came x.number) x) (cycles_of_slot p o d came)

pub fills_law : FillsLaw
fills_law i h d came k r = all_fill (public_on i.all h) (own_of i d) d came (separated i r).timed k

pub own_slots_law : OwnSlotsLaw
own_slots_law p o d came k = own_slots p o d came k

pub price_law : PriceLaw
price_law p o d came = all_slots p o d came (λ (x : Slot). All (Takes p.hardware.costs) x.events) (prices_of_slot p o d came)
