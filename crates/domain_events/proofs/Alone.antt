-- The events of a domain alone: a stretch is one event and then a stretch, and what comes later makes no difference.
use Rattle.std.proofs.Common.{◌≡◌, ℕ, zero, suc, ◌-◌, ◌<◌, ◌≤◌, Bool, true, false, eqb, ltb, ltb-true, lt-ltb, List, [], ◌∷◌, ◌++◌, length, ap, ap₂, sym, ◌∙◌, refl, arith}
use Rattle.std.specs.Prelude.{if◌then◌else◌}
use Rattle.std.specs.List.{All}
use Rattle.std.proofs.lemmas.List.{get_or_append_left}
use Rattle.std.proofs.lemmas.List.Elements.{All-nil, All-head, All-tail}
use Rattle.sched_table.specs.Schedule.{entry_of_slot}
use Rattle.image_check.specs.Public.{Public}
use Rattle.image_check.specs.Own.{Own}
use Rattle.mail_slots.specs.Sides.{Arrival}
use Rattle.world_view.specs.Mail.{turns, nth_of}
use Rattle.world_view.specs.Machine.{Local, Setting, step, alone_mail}
use Rattle.world_view.proofs.steps.Fuel.{IsTimed, is_over, step_later}
use Rattle.world_view.proofs.runs.Arrivals.{alone_early}
use Rattle.world_view.proofs.runs.Quiet.{AreNone, enter_none, alone_quiet}
use Rattle.domain_events.specs.Events.{Observed, Slot, observed, events_in, events_until, slot_from, slot_alone, slots_mailed}

-- ---- a stretch

both : (b : Bool) (x z y : List Observed) → (b ≡ true → x ≡ z)
    → (if b then x else y) ≡ (if b then z else y)
both true x z y f = f refl
both false x z y f = refl

module _ (w : Setting) (timed : IsTimed w.machine) (end : ℕ) where
  over : (s : Local) (xs : List Observed) → end ≤ s.clock → (if ltb s.clock end then xs else []) ≡ []
  over s xs h = ap (λ (b : Bool). if b then xs else []) (is_over s.clock end h)

  -- more steps than are left add nothing
  enough : (n m : ℕ) (s : Local) → end - s.clock ≤ n → end - s.clock ≤ m
      → events_in w end n s ≡ events_in w end m s
  unfolding events_in
  enough zero zero s h k = refl
  enough zero (suc m) s h k = sym (over s _ (omega (arith, h)))
  enough (suc n) zero s h k = over s _ (omega (arith, k))
  enough (suc n) (suc m) s h k =
      both (ltb s.clock end) _ _ []
      (λ e. let later = step_later w timed end s (ltb-true s.clock end e) in
      ap (λ (xs : List Observed). observed w end s ∷ xs)
      (enough n m (step w end s) (omega (arith, h, later)) (omega (arith, k, later))))

  one_more : (n : ℕ) (s : Local) → s.clock < end
      → events_in w end (suc n) s ≡ observed w end s ∷ events_in w end n (step w end s)
  unfolding events_in
  one_more n s h =
      ap (λ (b : Bool). if b then observed w end s ∷ events_in w end n (step w end s) else [])
      (lt-ltb s.clock end h)

  pub until_step : (s : Local) → s.clock < end
      → events_until w end s ≡ observed w end s ∷ events_until w end (step w end s)
  until_step s h =
      let later = step_later w timed end s h in
      enough (end - s.clock) (suc (end - s.clock)) s (omega arith) (omega arith)
      ∙ one_more (end - s.clock) s h
      ∙ ap (λ (xs : List Observed). observed w end s ∷ xs)
      (enough (end - s.clock) (end - (step w end s).clock) (step w end s) (omega (arith, later)) (omega arith))

  pub until_done : (s : Local) → end ≤ s.clock → events_until w end s ≡ []
  unfolding events_in
  until_done s h = enough (end - s.clock) 0 s (omega arith) (omega (arith, h))

-- ---- slots

module _ (p : Public) (o : Own) (d : ℕ) where
  -- with slot k, if it is its own
  abbrev with_slot : ℕ → Arrival → Bool → List Slot → Local → List Slot
  with_slot k words b before s = if b then before ++ slot_alone p o k words s ∷ [] else before

  early_if : (b : Bool) (k n : ℕ) (before : List Slot) (s : Local) (came more : List Arrival)
      → (if b then suc n else n) ≤ length came
      → with_slot k (nth_of (came ++ more) n) b before s ≡ with_slot k (nth_of came n) b before s
  early_if true k n before s came more few =
      ap (λ (words : Arrival). with_slot k words true before s) (get_or_append_left came more [] n (omega (arith, few)))
  early_if false k n before s came more few = refl

  fewer_if : (b : Bool) (n most : ℕ) → (if b then suc n else n) ≤ most → n ≤ most
  fewer_if true n most few = omega (arith, few)
  fewer_if false n most few = few

  -- what comes later makes no difference
  pub slots_early : (came more : List Arrival) (k : ℕ) → turns p.schedule d k ≤ length came
      → slots_mailed p o d (came ++ more) k ≡ slots_mailed p o d came k
  unfolding slots_mailed turns
  slots_early came more zero few = refl
  slots_early came more (suc k) few =
      let its = eqb (entry_of_slot p.schedule k).domain d in
      let n = turns p.schedule d k in
      let fewer = fewer_if its n (length came) few in
      ap₂ (λ (before : List Slot) (s : Local). with_slot k (nth_of (came ++ more) n) its before s)
      (slots_early came more k fewer) (alone_early p o d came more k fewer)
      ∙ early_if its k n (slots_mailed p o d came k) (alone_mail p o d came k) came more few

  -- ---- where nothing comes

  nth_none : (came : List Arrival) (n : ℕ) → All AreNone came → AreNone (nth_of came n)
  nth_none [] n none = All-nil (λ (ws : List ℕ). ws ≡ [])
  nth_none (words ∷ came) zero none = All-head AreNone words came none
  nth_none (words ∷ came) (suc n) none = nth_none came n (All-tail AreNone words came none)

  if_none : (b : Bool) (k : ℕ) (words : Arrival) (before : List Slot) (s : Local) → AreNone words
      → with_slot k words b before s ≡ with_slot k [] b before s
  if_none true k words before s none =
      ap (λ (x : Local). before ++ slot_from p o k x ∷ []) (enter_none p o d k words s none)
  if_none false k words before s none = refl

  pub slots_quiet : (came : List Arrival) (k : ℕ) → All AreNone came
      → slots_mailed p o d came k ≡ slots_mailed p o d [] k
  unfolding slots_mailed
  slots_quiet came zero none = refl
  slots_quiet came (suc k) none =
      let its = eqb (entry_of_slot p.schedule k).domain d in
      let n = turns p.schedule d k in
      if_none its k (nth_of came n) (slots_mailed p o d came k) (alone_mail p o d came k) (nth_none came n none)
      ∙ ap₂ (λ (before : List Slot) (s : Local). with_slot k [] its before s)
      (slots_quiet came k none) (alone_quiet p o d came k none)
      ∙ sym (if_none its k (nth_of [] n) (slots_mailed p o d [] k) (alone_mail p o d [] k) (nth_none [] n (All-nil AreNone)))

  -- ---- one slot more

  pub one_slot_more : (came : List Arrival) (k : ℕ) → eqb (entry_of_slot p.schedule k).domain d ≡ true
      → slots_mailed p o d came (suc k)
      ≡ slots_mailed p o d came k ++ slot_alone p o k (nth_of came (turns p.schedule d k)) (alone_mail p o d came k) ∷ []
  unfolding slots_mailed
  one_slot_more came k t =
      ap (λ (b : Bool). with_slot k (nth_of came (turns p.schedule d k)) b (slots_mailed p o d came k) (alone_mail p o d came k)) t

  pub no_slot_more : (came : List Arrival) (k : ℕ) → eqb (entry_of_slot p.schedule k).domain d ≡ false
      → slots_mailed p o d came (suc k) ≡ slots_mailed p o d came k
  unfolding slots_mailed
  no_slot_more came k t =
      ap (λ (b : Bool). with_slot k (nth_of came (turns p.schedule d k)) b (slots_mailed p o d came k) (alone_mail p o d came k)) t
