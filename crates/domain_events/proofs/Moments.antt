-- What holds of a domain's events at every moment, in its slots too.
use Rattle.std.proofs.Common.{◌≡◌, ℕ, ◌-◌, Bool, true, false, eqb, eqb-true, eq-eqb, true≢false, ◌≢◌, ◌⊎◌, inl, inr, List, [], ◌∷◌, ◌++◌, length-append, ap, sym, ◌∙◌, refl, subst, arith}
use Rattle.std.specs.List.{All}
use Rattle.std.proofs.lemmas.List.{get_or_append_left}
use Rattle.std.proofs.lemmas.List.Elements.{All-push}
use Rattle.mail_slots.specs.Sides.{Arrival}
use Rattle.image_check.specs.Image.{Image, own_of}
use Rattle.image_check.specs.Laws.{Runnable}
use Rattle.world_view.specs.Machine.{setting, Local, clock_of, part_of, step, stretch, arrivals}
use Rattle.world_view.specs.Relations.{IsDomain}
use Rattle.world_view.specs.Harts.{Harts, IsInSlot, public_on, domain_in, domain_on, end_on, hart_of_domain, progress_of, slots_of, harts}
use Rattle.world_view.specs.HartLaws.{AreHartsOf}
use Rattle.world_view.proofs.opening.Separate.{separated}
use Rattle.world_view.proofs.harts.Events.{IsHart, IsInside}
use Rattle.world_view.proofs.harts.Runs.{Running, home}
use Rattle.world_view.proofs.harts.Isolation.{running}
use Rattle.domain_events.specs.Events.{Observed, Slot, observed, events_until, slot_from, logged}
use Rattle.domain_events.specs.Laws.{Follow, IsInLast, PastLaw, NowLaw, Takes, WholePriceLaw}
use Rattle.domain_events.proofs.Alone.{until_step, one_slot_more}
use Rattle.domain_events.proofs.Times.{adds, takes, all_in, follow_in, follow_front, price_law}
use Rattle.domain_events.proofs.Logs.{InOwn, LogIn, LogAt, slots, slot_with, entered}
use Rattle.domain_events.proofs.Theorems.{logs}

-- a front of a list
pub All-front : {X : Type 0} (P : X → Type 0) (xs ys : List X) → All P (xs ++ ys) → All P xs
All-front P xs ys all k d lt = subst P (get_or_append_left xs ys d k lt) (all k d (omega (arith, lt, length-append xs ys)))

module _ (i : Image) (r : Runnable i) (d : ℕ) (id : IsDomain i d) where
  abbrev h : ℕ
  h = hart_of_domain i d

  abbrev AllTake : List Observed → Type 0
  AllTake events = All (Takes i.all.hardware.costs) events

  abbrev Priced : List Slot → Type 0
  Priced log = All (λ (x : Slot). AllTake x.events) log

  before : (came : List Arrival) (k : ℕ) → Priced (slots i r d id came k)
  before came k = price_law (public_on i.all h) (own_of i d) d came k

  priced_in : (came : List Arrival) (b : Bool) (k : ℕ) (x : Local) (log : List Slot) → LogIn i r d id came b k x log → Priced log
  priced_in came true k x log m =
      let w = setting i.all.hardware (own_of i d) true in
      let end = end_on i h k in
      let s = entered i r d id came k in
      let rest = events_until w end m.a in
      let all = all_in w end (Takes i.all.hardware.costs) (takes i.all.hardware (own_of i d) true end) in
      let whole : AllTake (m.done ++ rest) = subst AllTake (sym m.left) (all (end - s.clock) s) in
      subst Priced (sym m.logged)
      (All-push (λ (x : Slot). AllTake x.events) (slots i r d id came k) (slot_with i r d id came k m.done) (before came k)
      (All-front (Takes i.all.hardware.costs) m.done rest whole))
  priced_in came false k x log m = subst Priced (sym m) (before came k)

  priced_at : (came : List Arrival) (b : Bool) (k : ℕ) (x : Local) (log : List Slot) → LogAt i r d id came b k x log → Priced log
  priced_at came true k x log m = priced_in came (eqb (domain_in i h k) d) k x log m
  priced_at came false k x log m = subst Priced (sym m) (before came k)

  pub priced : (order : List ℕ) → AreHartsOf i order → Priced (logged i d order)
  priced order below =
      let s = harts i order in
      priced_at (arrivals d s.world) (progress_of h s).inside (slots_of h s) (part_of h d s.world) (logged i d order) (logs i r d id order below)

  -- ---- in another's slot, or in none

  past_in : (came : List Arrival) (b : Bool) (k : ℕ) (x : Local) (log : List Slot) → eqb (domain_in i h k) d ≡ b
      → domain_in i h k ≢ d → LogIn i r d id came b k x log → log ≡ slots i r d id came k
  past_in came true k x log t other m = absurd (other (eqb-true (domain_in i h k) d t))
  past_in came false k x log t other m = m

  past_at : (came : List Arrival) (b : Bool) (k : ℕ) (x : Local) (log : List Slot)
      → (b ≡ false) ⊎ (domain_in i h k ≢ d) → LogAt i r d id came b k x log → log ≡ slots i r d id came k
  past_at came false k x log where_it_is m = m
  past_at came true k x log (inl out) m = absurd (true≢false out)
  past_at came true k x log (inr other) m = past_in came (eqb (domain_in i h k) d) k x log refl other m

  -- ---- in a slot of the domain

  module _ (order : List ℕ) (below : AreHartsOf i order) (within : IsInSlot h (harts i order))
      (its : domain_on i h (harts i order) ≡ d) where
    abbrev s : Harts
    s = harts i order

    abbrev k : ℕ
    k = slots_of h s

    abbrev came : List Arrival
    came = arrivals d s.world

    abbrev log : List Slot
    log = logged i d order

    was : Running i r s
    was = running i r order below

    inside : IsInside i h k s.world
    inside = subst (λ (b : Bool). IsHart i b h k s.world) within (was.hart h (home i r d))

    own : InOwn i r d id came k (part_of h d s.world) log
    own =
        subst (λ (b : Bool). LogIn i r d id came b k (part_of h d s.world) log) (eq-eqb (domain_in i h k) d its)
        (subst (λ (b : Bool). LogAt i r d id came b k (part_of h d s.world) log) within (logs i r d id order below))

    follows : Follow (entered i r d id came k).clock own.done (clock_of h s.world)
    unfolding observed
    follows =
        let w = setting i.all.hardware (own_of i d) true in
        let end = end_on i h k in
        let first = entered i r d id came k in
        let now = own.near.clock in
        let soon = inside.soon in
        let more : events_until w end own.a ≡ observed w end own.a ∷ events_until w end (step w end own.a) =
        until_step w (separated i r).timed end own.a (omega (arith, now, soon)) in
        let all : Follow first.clock (own.done ++ observed w end own.a ∷ events_until w end (step w end own.a)) (stretch w end first).clock =
        subst (λ (events : List Observed). Follow first.clock events (stretch w end first).clock)
        (sym own.left ∙ ap (λ (rest : List Observed). own.done ++ rest) more) (follow_in w end (end - first.clock) first) in
        subst (Follow first.clock own.done) (sym now)
        (follow_front own.done first.clock (stretch w end first).clock (observed w end own.a) (events_until w end (step w end own.a)) all)

    in_last : IsInLast i d s log
    unfolding slot_from
    in_last =
        let rest = events_until (setting i.all.hardware (own_of i d) true) (end_on i h k) own.a in
        record {
          last = slot_with i r d id came k own.done;
          rest = rest;
          logged = own.logged;
          alone =
              one_slot_more (public_on i.all h) (own_of i d) d came k (eq-eqb (domain_in i h k) d its)
              ∙ ap (λ (events : List Observed). slots i r d id came k ++ slot_with i r d id came k events ∷ []) (sym own.left);
          number = refl;
          adds_up = record { follow = follows; sum = adds own.done (entered i r d id came k).clock (clock_of h s.world) follows };
        }

pub past_law : PastLaw
past_law i d order r id below where_it_is =
    let h = hart_of_domain i d in
    let s = harts i order in
    past_at i r d id (arrivals d s.world) (progress_of h s).inside (slots_of h s) (part_of h d s.world) (logged i d order) where_it_is
    (logs i r d id order below)

pub now_law : NowLaw
now_law i d order r id below within its = in_last i r d id order below within its

pub whole_price_law : WholePriceLaw
whole_price_law i d order r id below = priced i r d id order below
