-- What is logged of a domain on its hart, from event to event, beside the events of the domain alone.
use Rattle.std.proofs.Common.{None, ◌≡◌, ◌≢◌, ◌⊎◌, inl, inr, ℕ, suc, ◌<◌, ◌≤◌, Bool, true, false, eqb, ltb, eqb-true, eq-eqb, true≢false, List, [], ◌∷◌, ◌++◌, ap, ap₂, sym, ◌∙◌, refl, subst, arith}
use Rattle.std.specs.Prelude.{if◌then◌else◌}
use Rattle.std.specs.List.{All}
use Rattle.std.proofs.lemmas.Bool.{cases_eq, ltb-false, ne_eqb}
use Rattle.std.proofs.lemmas.List.{append_assoc, append-nil}
use Rattle.std.proofs.lemmas.List.Elements.{All-head, All-tail}
use Rattle.hardware_check.specs.Hardware.{Hardware}
use Rattle.mail_slots.specs.Sides.{Arrival, arrival}
use Rattle.sched_table.specs.Schedule.{outgoing, harts_in}
use Rattle.image_check.specs.Own.{Own}
use Rattle.image_check.specs.Image.{Image, own_of}
use Rattle.image_check.specs.Laws.{Runnable}
use Rattle.world_view.specs.Mail.{left_boxes, came_to, turns, nth_of}
use Rattle.world_view.specs.Machine.{guarded, Hart, Local, World, caches_of, clock_of, dom_of, part_of, with_part, with_hart, setting, step, switch_on, arrivals, alone_mail, alone_enter}
use Rattle.world_view.specs.Relations.{IsDomain, HasFacts, OwnDirty, Resident, Within, InTime}
use Rattle.world_view.specs.Harts.{Harts, Progress, image_on, domain_in, domain_on, end_on, hart_of_domain, progress_of, slots_of, proceeds, begins, runs, goes_on, next, after, next_by, after_by, settles}
use Rattle.world_view.specs.HartLaws.{LeftAlone}
use Rattle.world_view.proofs.opening.Separate.{Separated}
use Rattle.world_view.proofs.opening.OpeningFacts.{kernel_of}
use Rattle.world_view.proofs.runs.Arrivals.{one_more, none_more, alone_early, next_arrival}
use Rattle.world_view.proofs.runs.Joined.{it_enters}
use Rattle.world_view.proofs.harts.OnHart.{separated_on, not_here}
use Rattle.world_view.proofs.harts.Events.{IsHart, IsInside, begun_world, begins_is}
use Rattle.world_view.proofs.harts.Meets.{Meets, within_trans, moved}
use Rattle.world_view.proofs.harts.Runs.{Running, home, progress-same, there_if, next_so}
use Rattle.world_view.proofs.mail.Arriving.{nothing_else}
use Rattle.domain_events.specs.Events.{Observed, Slot, observed, events_until, slot_from, slots_mailed, begun_slot, with_last, observed_on, with_next, logged_from}
use Rattle.domain_events.proofs.Alone.{until_step, until_done, slots_early, one_slot_more, no_slot_more}
use Rattle.domain_events.proofs.Beside.{observed_within}

-- the last slot goes on
with_last_is : (e : Observed) (xs : List Slot) (x : Slot)
    → with_last e (xs ++ x ∷ []) ≡ xs ++ record x { events = x.events ++ e ∷ [] } ∷ []
unfolding with_last
with_last_is e [] x = refl
with_last_is e (y ∷ []) x = refl
with_last_is e (y ∷ z ∷ zs) x = ap (λ (xs : List Slot). y ∷ xs) (with_last_is e (z ∷ zs) x)

-- ---- what an event adds

module _ (i : Image) (d h : ℕ) (s : Harts) (log : List Slot) where
  abbrev added : Bool → Bool → List Slot
  added its inside =
      if its
      then if inside then with_last (observed_on i d h s) log else log ++ begun_slot h s (next i h s) ∷ []
      else log

  adds_event : eqb (domain_on i h s) d ≡ true → (progress_of h s).inside ≡ true
      → with_next i d h s log ≡ with_last (observed_on i d h s) log
  unfolding with_next
  adds_event its within = ap₂ added its within

  adds_slot : eqb (domain_on i h s) d ≡ true → (progress_of h s).inside ≡ false
      → with_next i d h s log ≡ log ++ begun_slot h s (next i h s) ∷ []
  unfolding with_next
  adds_slot its outside = ap₂ added its outside

  adds_none : eqb (domain_on i h s) d ≡ false → with_next i d h s log ≡ log
  unfolding with_next
  adds_none other = ap (λ (b : Bool). added b (progress_of h s).inside) other

module _ (i : Image) (r : Runnable i) (d : ℕ) (id : IsDomain i d) where
  abbrev h : ℕ
  h = hart_of_domain i d

  abbrev on : Image
  on = image_on i h

  abbrev p : Hardware
  p = i.all.hardware

  abbrev o : Own
  o = own_of i d

  is : h < harts_in i.all.schedule
  is = home i r d

  r_on : Separated on
  r_on = separated_on i r h is

  -- the domain alone before slot k of its hart, where this came to it, and as it begins that slot
  abbrev apart : List Arrival → ℕ → Local
  apart came k = alone_mail on.all o d came k

  abbrev words_at : List Arrival → ℕ → Arrival
  words_at came k = nth_of came (turns on.all.schedule d k)

  abbrev pub entered : List Arrival → ℕ → Local
  entered came k = alone_enter on.all o k (words_at came k) (apart came k)

  -- its slots before slot k, and slot k with these events
  abbrev pub slots : List Arrival → ℕ → List Slot
  slots came k = slots_mailed on.all o d came k

  abbrev pub slot_with : List Arrival → ℕ → List Observed → Slot
  slot_with came k events = record { number = k; begins = (entered came k).clock; events = events }

  -- in its slot k: with what was logged of it, what the domain alone still does there is all that it does there
  pub record InOwn (came : List Arrival) (k : ℕ) (x : Local) (log : List Slot) : Type 0 where
    pub a : Local
    pub near : Within p o x a
    pub done : List Observed
    pub logged : log ≡ slots came k ++ slot_with came k done ∷ []
    pub left : done ++ events_until (setting p o true) (end_on i h k) a
        ≡ events_until (setting p o true) (end_on i h k) (entered came k)

  -- inside slot k of its hart, which is its own or another's
  abbrev pub LogIn : List Arrival → Bool → ℕ → Local → List Slot → Type 0
  LogIn came true k x log = InOwn came k x log
  LogIn came false k x log = log ≡ slots came k

  -- inside slot k of its hart, or before it
  abbrev pub LogAt : List Arrival → Bool → ℕ → Local → List Slot → Type 0
  LogAt came true k x log = LogIn came (eqb (domain_in i h k) d) k x log
  LogAt came false k x log = log ≡ slots came k

  abbrev pub Logs : Harts → List Slot → Type 0
  Logs s log = LogAt (arrivals d s.world) (progress_of h s).inside (slots_of h s) (part_of h d s.world) log

  -- ---- an event of another hart

  still_in : (came : List Arrival) (b : Bool) (k : ℕ) (x y : Local) (log : List Slot) → Within p o y x
      → LogIn came b k x log → LogIn came b k y log
  still_in came true k x y log same m =
      record { a = m.a; near = within_trans p o y x m.a same m.near; done = m.done; logged = m.logged; left = m.left }
  still_in came false k x y log same m = m

  still_at : (came : List Arrival) (b : Bool) (k : ℕ) (x y : Local) (log : List Slot) → Within p o y x
      → LogAt came b k x log → LogAt came b k y log
  still_at came true k x y log same m = still_in came (eqb (domain_in i h k) d) k x y log same m
  still_at came false k x y log same m = m

  module _ (g : ℕ) (there : g < harts_in i.all.schedule) (other : g ≢ h) (s : Harts) (was : Running i r s) (log : List Slot) where
    alone_left : LeftAlone i d (next i g s) s
    alone_left = (next_so i r g there s was).left d id other

    within_left : Within p o (part_of h d (next i g s).world) (part_of h d s.world)
    within_left = record {
      dom = alone_left.dom;
      part = alone_left.part;
      core = ap (λ (x : Hart). x.core) alone_left.hart;
      clock = ap (λ (x : Hart). x.clock) alone_left.hart;
    }

    not_its : domain_on i g s ≢ d
    not_its e = not_here i r g there (slots_of g s) d other (sym e)

    nothing_came : arrivals d (next i g s).world ≡ arrivals d s.world
    nothing_came = nothing_else i g s d (λ e. not_its e.who)

    others_log : Logs s log → Logs (next i g s) (with_next i d g s log)
    others_log m =
        let later = next i g s in
        subst (λ (xs : List Slot). Logs later xs) (sym (adds_none i d g s log (ne_eqb (domain_on i g s) d not_its)))
        (subst (λ (x : Progress). LogAt (arrivals d later.world) x.inside x.slots (part_of h d later.world) log)
        (sym alone_left.progress)
        (subst (λ (came : List Arrival). LogAt came (progress_of h s).inside (slots_of h s) (part_of h d later.world) log)
        (sym nothing_came)
        (still_at (arrivals d s.world) (progress_of h s).inside (slots_of h s) (part_of h d s.world) (part_of h d later.world) log within_left m)))

  -- ---- events of its hart

  module _ (s : Harts) (was : Running i r s) (log : List Slot) where
    abbrev k : ℕ
    k = slots_of h s

    abbrev w : World
    w = s.world

    abbrev came : List Arrival
    came = arrivals d w

    abbrev log' : List Slot
    log' = with_next i d h s log

    its_is : eqb (domain_in i h k) d ≡ true → domain_in i h k ≡ d
    its_is its = eqb-true (domain_in i h k) d its

    -- one in a slot
    module _ (within : (progress_of h s).inside ≡ true) where
      abbrev w' : World
      w' = runs None i h k w

      abbrev end : ℕ
      end = end_on i h k

      inside : IsInside i h k w
      inside = subst (λ (b : Bool). IsHart i b h k w) within (was.hart h is)

      facts : HasFacts p (own_of i (domain_in i h k)) (dom_of w (domain_in i h k)) w.storage
      facts = (was.facts (domain_in i h k) (r_on.named k)).facts

      resident : Resident p (caches_of 0 w)
      resident = there_if i r h s within was.shared

      seen : (its : eqb (domain_in i h k) d ≡ true) (a : Local) → Within p o (part_of h d w) a
          → observed_on i d h s ≡ observed (setting p o true) end a
      unfolding observed_on
      seen its a near =
          observed_within p o end (part_of h d w) a (kernel_of on r_on d id)
          (subst (λ (e : ℕ). HasFacts p (own_of i e) (dom_of w e) w.storage) (its_is its) facts)
          (subst (λ (e : ℕ). OwnDirty p (own_of i e) (caches_of h w)) (its_is its) inside.dirty) resident near

      stepped : eqb (domain_in i h k) d ≡ true → InOwn came k (part_of h d w) log → InOwn came k (part_of h d w') log'
      stepped its m =
          let e = observed_on i d h s in
          let later = step (setting p o true) end m.a in
          let at = m.near.clock in
          let soon = inside.soon in
          record {
            a = later;
            near = moved i h d r is id k w inside facts resident (its_is its) m.a m.near;
            done = m.done ++ e ∷ [];
            logged =
                adds_event i d h s log its within ∙ ap (with_last e) m.logged
                ∙ with_last_is e (slots came k) (slot_with came k m.done);
            left =
                append_assoc m.done (e ∷ []) (events_until (setting p o true) end later)
                ∙ ap (λ (x : Observed). m.done ++ x ∷ events_until (setting p o true) end later) (seen its m.a m.near)
                ∙ ap (λ (xs : List Observed). m.done ++ xs)
                (sym (until_step (setting p o true) r_on.timed end m.a (omega (arith, at, soon))))
                ∙ m.left;
          }

      on_if : (b : Bool) → eqb (domain_in i h k) d ≡ b → LogIn came b k (part_of h d w) log
          → LogIn came b k (part_of h d w') log'
      on_if true its m = stepped its m
      on_if false other m = adds_none i d h s log other ∙ m

      over_if : (b : Bool) → eqb (domain_in i h k) d ≡ b → end ≤ clock_of h w' → LogIn came b k (part_of h d w) log
          → log' ≡ slots came (suc k)
      unfolding slot_from
      over_if true its over m =
          let n = stepped its m in
          let at = n.near.clock in
          let all : n.done ≡ events_until (setting p o true) end (entered came k) =
          sym (append-nil n.done)
          ∙ ap (λ (xs : List Observed). n.done ++ xs)
          (sym (until_done (setting p o true) r_on.timed end n.a (omega (arith, at, over))))
          ∙ n.left in
          n.logged ∙ ap (λ (xs : List Observed). slots came k ++ slot_with came k xs ∷ []) all
          ∙ sym (one_slot_more on.all o d came k its)
      over_if false other over m = adds_none i d h s log other ∙ m ∙ sym (no_slot_more on.all o d came k other)

      came_still : arrivals d w' ≡ came
      unfolding runs with_part with_hart guarded
      came_still = refl

      goes_if : (b : Bool) → ltb (clock_of h w') end ≡ b → LogIn came (eqb (domain_in i h k) d) k (part_of h d w) log
          → Logs (if b then proceeds h s w' k true else proceeds h s w' (suc k) false) log'
      unfolding proceeds
      goes_if true t m =
          subst (λ (x : Progress). LogAt (arrivals d w') x.inside x.slots (part_of h d w') log') (sym (progress-same h s w' k true))
          (subst (λ (xs : List Arrival). LogAt xs true k (part_of h d w') log') (sym came_still)
          (on_if (eqb (domain_in i h k) d) refl m))
      goes_if false t m =
          subst (λ (x : Progress). LogAt (arrivals d w') x.inside x.slots (part_of h d w') log') (sym (progress-same h s w' (suc k) false))
          (subst (λ (xs : List Arrival). LogAt xs false (suc k) (part_of h d w') log') (sym came_still)
          (over_if (eqb (domain_in i h k) d) refl (ltb-false _ _ t) m))

      goes_on_log : LogIn came (eqb (domain_in i h k) d) k (part_of h d w) log → Logs (goes_on None i h s) log'
      unfolding goes_on settles guarded
      goes_on_log m = goes_if (ltb (clock_of h w') end) refl m

    -- a switch
    module _ (outside : (progress_of h s).inside ≡ false) where
      abbrev begun : World
      begun = begun_world i h s

      time : InTime on h k w
      time = subst (λ (b : Bool). IsHart i b h k w) outside (was.hart h is)

      met : Meets i h d came false k (part_of h d w)
      met = subst (λ (b : Bool). Meets i h d came b k (part_of h d w)) outside (was.meets d id)

      -- what comes in with it
      abbrev comes : Arrival
      comes = arrival d (left_boxes (outgoing on.all.schedule k) w.storage.boxes)

      abbrev more : List Arrival
      more = came ++ comes ∷ []

      more_came : eqb (domain_in i h k) d ≡ true → arrivals d begun ≡ more
      unfolding switch_on with_hart
      more_came its =
          one_more d w.came (came_to (outgoing on.all.schedule k) (domain_in i h k) w.storage.boxes) (its_is its)
          ∙ ap (λ (e : ℕ). came ++ arrival e (left_boxes (outgoing on.all.schedule k) w.storage.boxes) ∷ []) (its_is its)

      none_came : eqb (domain_in i h k) d ≡ false → arrivals d begun ≡ came
      unfolding switch_on with_hart
      none_came other =
          none_more d w.came (came_to (outgoing on.all.schedule k) (domain_in i h k) w.storage.boxes)
          (λ q. true≢false (sym (eq-eqb (domain_in i h k) d q) ∙ other))

      -- what came before is as it was
      entered_is : alone_enter on.all o k comes (apart came k) ≡ entered more k
      entered_is =
          let count = met.count in
          ap₂ (λ (ws : Arrival) (x : Local). alone_enter on.all o k ws x)
          (sym (next_arrival on.all o d came comes k met.count))
          (sym (alone_early on.all o d came (comes ∷ []) k (omega (arith, count))))

      slots_are : slots more k ≡ slots came k
      slots_are = let count = met.count in slots_early on.all o d came (comes ∷ []) k (omega (arith, count))

      enters : eqb (domain_in i h k) d ≡ true → Within p o (part_of h d begun) (alone_enter on.all o k comes (apart came k))
      enters its = it_enters on r_on d id came h w k (its_is its) time met.at

      next_begun : clock_of h (next i h s).world ≡ clock_of h begun
      unfolding next_by proceeds
      next_begun =
          ap (λ (b : Bool). clock_of h (if b then goes_on None i h s else begins None i h s).world) outside
          ∙ ap (λ (x : Harts). clock_of h x.world) (begins_is i r h is s time)

      begun_is : eqb (domain_in i h k) d ≡ true → begun_slot h s (next i h s) ≡ slot_with more k []
      unfolding begun_slot
      begun_is its =
          ap (λ (t : ℕ). record { number = k; begins = t; events = [] })
          (next_begun ∙ (enters its).clock ∙ ap (λ (x : Local). x.clock) entered_is)

      begin_if : (b : Bool) → eqb (domain_in i h k) d ≡ b → log ≡ slots came k
          → LogIn (arrivals d begun) b k (part_of h d begun) log'
      begin_if true its m = subst (λ (xs : List Arrival). InOwn xs k (part_of h d begun) log') (sym (more_came its)) (record {
        a = alone_enter on.all o k comes (apart came k);
        near = enters its;
        done = [];
        logged =
            adds_slot i d h s log its outside
            ∙ ap₂ (λ (xs : List Slot) (x : Slot). xs ++ x ∷ []) (m ∙ sym slots_are) (begun_is its);
        left = ap (events_until (setting p o true) (end_on i h k)) entered_is;
      })
      begin_if false other m =
          adds_none i d h s log other ∙ m ∙ ap (λ (xs : List Arrival). slots xs k) (sym (none_came other))

      begins_log : log ≡ slots came k → Logs (begins None i h s) log'
      unfolding proceeds
      begins_log m =
          subst (λ (x : Harts). Logs x log') (sym (begins_is i r h is s time))
          (subst (λ (x : Progress). LogAt (arrivals d begun) x.inside x.slots (part_of h d begun) log') (sym (progress-same h s begun k true))
          (begin_if (eqb (domain_in i h k) d) refl m))

    own_if : (b : Bool) → (progress_of h s).inside ≡ b → LogAt came b k (part_of h d w) log
        → Logs (if b then goes_on None i h s else begins None i h s) log'
    own_if true within m = goes_on_log within m
    own_if false outside m = begins_log outside m

    own_log : Logs s log → Logs (next i h s) log'
    unfolding next_by
    own_log m = own_if (progress_of h s).inside refl m

  -- ---- every event

  next_if : (g : ℕ) → g < harts_in i.all.schedule → (g ≡ h) ⊎ (g ≢ h) → (s : Harts) → Running i r s → (log : List Slot)
      → Logs s log → Logs (next i g s) (with_next i d g s log)
  next_if g there (inl same) s was log m =
      subst (λ (x : ℕ). Logs (next i x s) (with_next i d x s log)) (sym same) (own_log s was log m)
  next_if g there (inr other) s was log m = others_log g there other s was log m

  pub logs_after : (order : List ℕ) (s : Harts) (log : List Slot) → All (λ g. g < harts_in i.all.schedule) order
      → Running i r s → Logs s log → Logs (after i order s) (logged_from i d order s log)
  unfolding after_by logged_from
  logs_after [] s log below was m = m
  logs_after (g ∷ gs) s log below was m =
      let there = All-head (λ (x : ℕ). x < harts_in i.all.schedule) g gs below in
      logs_after gs (next i g s) (with_next i d g s log) (All-tail (λ (x : ℕ). x < harts_in i.all.schedule) g gs below)
      (next_so i r g there s was).running (next_if g there (cases_eq g h) s was log m)
