-- Where nothing comes to the domains of a hart, how far the events of one of them are goes by the number of the hart's own.
use Rattle.std.proofs.Common.{◌≡◌, ◌≢◌, ◌⊎◌, inl, inr, ℕ, suc, ◌+◌, ◌-◌, ◌<◌, Bool, true, false, List, [], ◌∷◌, ◌++◌, length, ap, ap₂, sym, ◌∙◌, refl, subst, subst₂, arith}
use Rattle.std.specs.List.{All}
use Rattle.std.proofs.lemmas.Bool.{cases_eq}
use Rattle.std.proofs.lemmas.List.{append_cancel_left, get_or_push, length_push}
use Rattle.std.proofs.lemmas.List.Elements.{All-head, All-tail}
use Rattle.sched_table.specs.Schedule.{slot_end}
use Rattle.image_check.specs.Image.{Image, own_of}
use Rattle.image_check.specs.Laws.{Runnable}
use Rattle.world_view.specs.Machine.{setting, clock_of, arrivals}
use Rattle.world_view.specs.Relations.{IsDomain, HasNoMail}
use Rattle.world_view.specs.Harts.{Harts, Progress, IsInSlot, IsOutside, public_on, domain_in, domain_on, hart_of_domain, progress_of, slots_of, harts}
use Rattle.world_view.specs.HartLaws.{AreHartsOf, AsFar}
use Rattle.world_view.proofs.opening.Separate.{separated}
use Rattle.world_view.proofs.steps.Fuel.{step_later}
use Rattle.world_view.proofs.harts.Runs.{home}
use Rattle.world_view.proofs.harts.Isolation.{running}
use Rattle.world_view.proofs.harts.Counted.{events_law}
use Rattle.domain_events.specs.Events.{Observed, Slot, observed, slot_from, slots_mailed, logged}
use Rattle.domain_events.specs.Laws.{Follow, IsInLast, slots_on, SameEventsLaw}
use Rattle.domain_events.proofs.Alone.{slots_quiet}
use Rattle.domain_events.proofs.Times.{adds, all_in, all_slots, entered, slot}
use Rattle.domain_events.proofs.Moments.{All-front, past_law, now_law}

-- ---- two fronts of the same events that end at the same clock

abbrev IsLong : Observed → Type 0
IsLong e = 0 < e.cycles

fronts : (xs ys us vs : List Observed) (now end : ℕ) → xs ++ us ≡ ys ++ vs → All IsLong xs → All IsLong ys
    → Follow now xs end → Follow now ys end → xs ≡ ys
fronts [] [] us vs now end same long long' follow follow' = refl
fronts [] (y ∷ ys) us vs now end same long long' follow follow' =
    let takes = All-head IsLong y ys long' in
    let sum = adds ys (now + y.cycles) end follow'.1 in
    absurd (omega (arith, takes, sum, follow))
fronts (x ∷ xs) [] us vs now end same long long' follow follow' =
    let takes = All-head IsLong x xs long in
    let sum = adds xs (now + x.cycles) end follow.1 in
    absurd (omega (arith, takes, sum, follow'))
fronts (x ∷ xs) (y ∷ ys) us vs now end same long long' follow follow' =
    let head : x ≡ y = cc same in
    let tails : xs ++ us ≡ ys ++ vs = cc same in
    ap₂ (λ (e : Observed) (events : List Observed). e ∷ events) head
    (fronts xs ys us vs (now + x.cycles) end tails (All-tail IsLong x xs long) (All-tail IsLong y ys long') follow.1
    (subst (λ (e : Observed). Follow (now + e.cycles) ys end) (sym head) follow'.1))

same_slot : (x y : Slot) → x.number ≡ y.number → x.begins ≡ y.begins → x.events ≡ y.events → x ≡ y
same_slot x y number begins events =
    ap₂ (λ (k t : ℕ). record x { number = k; begins = t }) number begins ∙ ap (λ (es : List Observed). record y { events = es }) events

last_of : (P : Slot → Type 0) (xs : List Slot) (x : Slot) → All P (xs ++ x ∷ []) → P x
last_of P xs x all =
    subst P (get_or_push xs x x (length xs) refl) (all (length xs) x (omega (arith, length_push xs x)))

module _ (i : Image) (r : Runnable i) (d : ℕ) (id : IsDomain i d) (none : HasNoMail i d) where
  abbrev h : ℕ
  h = hart_of_domain i d

  -- those of the domain alone, with nothing that comes
  abbrev alone : ℕ → List Slot
  alone k = slots_mailed (public_on i.all h) (own_of i d) d [] k

  slots_are : (order : List ℕ) → AreHartsOf i order → (k : ℕ) → slots_on i d (harts i order) k ≡ alone k
  slots_are order below k =
      slots_quiet (public_on i.all h) (own_of i d) d (arrivals d (harts i order).world) k ((running i r order below).quiet d none)

  -- each event takes a cycle or more
  abbrev AreLong : Slot → Type 0
  AreLong x = All IsLong x.events

  long_slot : (k : ℕ) → AreLong (slot (public_on i.all h) (own_of i d) d [] k)
  unfolding slot_from observed
  long_slot k =
      let p = public_on i.all h in
      let w = setting p.hardware (own_of i d) true in
      let end = slot_end p.schedule k in
      let s = entered p (own_of i d) d [] k in
      all_in w end IsLong (λ t soon. let later = step_later w (separated i r).timed end t soon in omega (arith, later)) (end - s.clock) s

  all_long : (k : ℕ) → All AreLong (alone k)
  all_long k = all_slots (public_on i.all h) (own_of i d) d [] AreLong long_slot k

  -- in slot k, which is the domain's, at this clock
  record Lasts (k clock : ℕ) (log : List Slot) : Type 0 where
    last : Slot
    rest : List Observed
    logged : log ≡ alone k ++ last ∷ []
    whole : alone (suc k) ≡ alone k ++ record last { events = last.events ++ rest } ∷ []
    follow : Follow last.begins last.events clock

  lasts : (order : List ℕ) → AreHartsOf i order → IsInLast i d (harts i order) (logged i d order)
      → Lasts (slots_of h (harts i order)) (clock_of h (harts i order).world) (logged i d order)
  lasts order below m =
      let k = slots_of h (harts i order) in
      let here = slots_are order below k in
      record {
        last = m.last;
        rest = m.rest;
        logged = m.logged ∙ ap (λ (xs : List Slot). xs ++ m.last ∷ []) here;
        whole =
            sym (slots_are order below (suc k)) ∙ m.alone
            ∙ ap (λ (xs : List Slot). xs ++ record m.last { events = m.last.events ++ m.rest } ∷ []) here;
        follow = m.adds_up.follow;
      }

  long_last : (k clock : ℕ) (log : List Slot) (m : Lasts k clock log) → All IsLong m.last.events
  long_last k clock log m =
      All-front IsLong m.last.events m.rest
      (last_of AreLong (alone k) (record m.last { events = m.last.events ++ m.rest }) (subst (All AreLong) m.whole (all_long (suc k))))

  lasts_same : (k clock : ℕ) (one two : List Slot) → Lasts k clock one → Lasts k clock two → one ≡ two
  lasts_same k clock one two m n =
      let x : Slot = record m.last { events = m.last.events ++ m.rest } in
      let y : Slot = record n.last { events = n.last.events ++ n.rest } in
      let both : x ∷ [] ≡ y ∷ [] = append_cancel_left (alone k) (x ∷ []) (y ∷ []) (sym m.whole ∙ n.whole) in
      let same : x ≡ y = cc both in
      let number : m.last.number ≡ n.last.number = ap (λ (z : Slot). z.number) same in
      let begins : m.last.begins ≡ n.last.begins = ap (λ (z : Slot). z.begins) same in
      let events : m.last.events ++ m.rest ≡ n.last.events ++ n.rest = ap (λ (z : Slot). z.events) same in
      let so_far : m.last.events ≡ n.last.events =
      fronts m.last.events n.last.events m.rest n.rest m.last.begins clock events (long_last k clock one m)
      (long_last k clock two n) m.follow
      (subst (λ (now : ℕ). Follow now n.last.events clock) (sym begins) n.follow) in
      m.logged
      ∙ ap (λ (z : Slot). alone k ++ z ∷ []) (same_slot m.last n.last number begins so_far)
      ∙ sym n.logged

  module _ (one two : List ℕ) (below_one : AreHartsOf i one) (below_two : AreHartsOf i two)
      (far : AsFar h (harts i one) (harts i two)) where
    abbrev s : Harts
    s = harts i one

    abbrev t : Harts
    t = harts i two

    slots : slots_of h s ≡ slots_of h t
    slots = ap (λ (x : Progress). x.slots) far.progress

    inside : (progress_of h s).inside ≡ (progress_of h t).inside
    inside = ap (λ (x : Progress). x.inside) far.progress

    its : domain_on i h s ≡ domain_on i h t
    its = ap (domain_in i h) slots

    past : IsOutside h s ⊎ (domain_on i h s ≢ d) → IsOutside h t ⊎ (domain_on i h t ≢ d) → logged i d one ≡ logged i d two
    past here there =
        past_law i d one r id below_one here ∙ slots_are one below_one (slots_of h s) ∙ ap alone slots
        ∙ sym (slots_are two below_two (slots_of h t)) ∙ sym (past_law i d two r id below_two there)

    now : IsInSlot h s → domain_on i h s ≡ d → logged i d one ≡ logged i d two
    now within here =
        let m = lasts one below_one (now_law i d one r id below_one within here) in
        let n = lasts two below_two (now_law i d two r id below_two (sym inside ∙ within) (sym its ∙ here)) in
        lasts_same (slots_of h s) (clock_of h s.world) (logged i d one) (logged i d two) m
        (subst₂ (λ (k clock : ℕ). Lasts k clock (logged i d two)) (sym slots) (sym far.clock) n)

    by_inside : (b : Bool) → (progress_of h s).inside ≡ b → (domain_on i h s ≡ d) ⊎ (domain_on i h s ≢ d)
        → logged i d one ≡ logged i d two
    by_inside false out where_it_is = past (inl out) (inl (sym inside ∙ out))
    by_inside true within (inl here) = now within here
    by_inside true within (inr other) = past (inr other) (inr (λ e. other (its ∙ e)))

    same : logged i d one ≡ logged i d two
    same = by_inside (progress_of h s).inside refl (cases_eq (domain_on i h s) d)

pub same_events_law : SameEventsLaw
same_events_law i d one two r id below_one below_two none many =
    let h = hart_of_domain i d in
    same i r d id (none d refl) one two below_one below_two
    (events_law i h one two r below_one below_two (home i r d) none many)
