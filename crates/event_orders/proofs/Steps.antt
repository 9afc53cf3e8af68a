-- What a hart's events go by and leave, and that they end its slot.
use Rattle.std.proofs.Common.{◌≡◌, ◌≢◌, ℕ, zero, suc, ◌-◌, ◌<◌, ◌≤◌, Bool, true, false, ap, sym, ◌∙◌, refl, subst, arith, true≢false}
use Rattle.std.specs.Prelude.{if◌then◌else◌}
use Rattle.event_orders.specs.Machine.{Machine, IsMachine}
use Rattle.event_orders.specs.Orders.{run, count_events, slot_events}

module _ (m : Machine) (is : IsMachine m) where
  -- the next k events of a hart are of its slot, and end it
  abbrev pub End : ℕ → ℕ → m.World → Type 0
  End h zero w = m.inside h w ≡ false
  End h (suc k) w = (m.inside h w ≡ true) × End h k (m.next h w)

  pub none_left : (h k : ℕ) (w : m.World) → End h k w → m.inside h w ≡ false → k ≡ 0
  none_left h zero w e out = refl
  none_left h (suc k) w e out = absurd (true≢false (sym e.0 ∙ out))

  pub record More (k : ℕ) : Type 0 where
    pub rest : ℕ
    pub one_more : k ≡ suc rest

  pub some_left : (h k : ℕ) (w : m.World) → End h k w → m.inside h w ≡ true → More k
  some_left h zero w e now = absurd (true≢false (sym now ∙ e))
  some_left h (suc k) w e now = record { rest = k; one_more = refl }

  module _ (h : ℕ) (there : h < m.harts) where
    pub run_sound : (k : ℕ) (w : m.World) → m.IsSound w → m.IsSound (run m h k w)
    unfolding run
    run_sound zero w s = s
    run_sound (suc k) w s = run_sound k (m.next h w) (is.sound h w there s)

    pub run_others : (g k : ℕ) (w : m.World) → g ≢ h → m.IsSound w → m.Same g (run m h k w) w
    unfolding run
    run_others g zero w ne s = (is.same g).itself w
    run_others g (suc k) w ne s =
        (is.same g).on _ (m.next h w) w (run_others g k (m.next h w) ne (is.sound h w there s)) (is.others g h w there ne s)

    pub run_shared : (k : ℕ) (w : m.World) → m.IsSound w → End h k w → m.SameShared (run m h k w) w
    unfolding run
    run_shared zero w s e = is.shared.itself w
    run_shared (suc k) w s e =
        is.shared.on _ (m.next h w) w (run_shared k (m.next h w) (is.sound h w there s) e.1) (is.work_shared h w there s e.0)

    pub run_same : (k : ℕ) (w v : m.World) → m.IsSound w → m.IsSound v → End h k w → m.Same h w v
        → m.Same h (run m h k w) (run m h k v)
    unfolding run
    run_same zero w v s t e same = same
    run_same (suc k) w v s t e same =
        run_same k (m.next h w) (m.next h v) (is.sound h w there s) (is.sound h v there t) e.1 (is.work h w v there s t e.0 same)

    pub end_same : (k : ℕ) (w v : m.World) → m.IsSound w → m.IsSound v → m.Same h w v → End h k w → End h k v
    end_same zero w v s t same e = sym (is.as_far h w v same).inside ∙ e
    end_same (suc k) w v s t same e = (
      sym (is.as_far h w v same).inside ∙ e.0,
      end_same k (m.next h w) (m.next h v) (is.sound h w there s) (is.sound h v there t) (is.work h w v there s t e.0 same) e.1,
    )

    -- ---- after them

    pub run_ends : (k : ℕ) (w : m.World) → End h k w → m.inside h (run m h k w) ≡ false
    unfolding run
    run_ends zero w e = e
    run_ends (suc k) w e = run_ends k (m.next h w) e.1

    pub run_clock : (k : ℕ) (w : m.World) → m.IsSound w → m.clock h w ≤ m.clock h (run m h k w)
    unfolding run
    run_clock zero w s = omega arith
    run_clock (suc k) w s =
        let more = run_clock k (m.next h w) (is.sound h w there s) in
        let rises = is.rises h w there s in
        omega (arith, more, rises)

    no_fewer : (w : m.World) (b : Bool) → m.inside h (m.next h w) ≡ b → m.inside h w ≡ true
        → m.slots h w ≤ m.slots h (m.next h w)
    no_fewer w true after now = let e = is.goes_on h w now after in omega (arith, e)
    no_fewer w false after now = let e = is.ends h w now after in omega (arith, e)

    pub run_slots : (k : ℕ) (w : m.World) → End h k w → m.slots h w ≤ m.slots h (run m h k w)
    unfolding run
    run_slots zero w e = omega arith
    run_slots (suc k) w e =
        let more = run_slots k (m.next h w) e.1 in
        let one = no_fewer w (m.inside h (m.next h w)) refl e.0 in
        omega (arith, more, one)

    -- ---- a slot ends within its cycles

    left : m.World → ℕ
    left w = m.end h (m.slots h w) - m.clock h w

    abbrev EndsWithin : ℕ → Type 0
    EndsWithin f = (w : m.World) → m.IsSound w → left w ≤ f → End h (count_events m h f w) w

    at_once : (w : m.World) → m.IsSound w → left w ≤ 0 → (b : Bool) → m.inside h w ≡ b → m.inside h w ≡ false
    unfolding left
    at_once w s le false out = out
    at_once w s le true now = let soon = is.early h w there s now in absurd (omega (arith, soon, le))

    -- of no slot any more: whatever the fuel, none is counted
    counts_none : (f : ℕ) (w : m.World) → m.inside h w ≡ false → count_events m h f w ≡ 0
    unfolding count_events
    counts_none zero w out = refl
    counts_none (suc f) w out = ap (λ (b : Bool). if b then suc (count_events m h f (m.next h w)) else 0) out

    counts_some : (f : ℕ) (w : m.World) → m.inside h w ≡ true
        → count_events m h (suc f) w ≡ suc (count_events m h f (m.next h w))
    unfolding count_events
    counts_some f w now = ap (λ (b : Bool). if b then suc (count_events m h f (m.next h w)) else 0) now

    ends_next : (f : ℕ) → EndsWithin f → (w : m.World) → m.IsSound w → left w ≤ suc f → m.inside h w ≡ true
        → (b : Bool) → m.inside h (m.next h w) ≡ b
        → End h (count_events m h f (m.next h w)) (m.next h w)
    unfolding left
    ends_next f ih w s le now false after =
        subst (λ (k : ℕ). End h k (m.next h w)) (sym (counts_none f (m.next h w) after)) after
    ends_next f ih w s le now true after =
        let rises = is.rises h w there s in
        let soon = is.early h w there s now in
        let end : m.end h (m.slots h (m.next h w)) ≡ m.end h (m.slots h w) = ap (m.end h) (is.goes_on h w now after) in
        ih (m.next h w) (is.sound h w there s) (omega (arith, le, end, rises, soon))

    ends_if : (f : ℕ) → EndsWithin f → (w : m.World) → m.IsSound w → left w ≤ suc f → (b : Bool) → m.inside h w ≡ b
        → End h (count_events m h (suc f) w) w
    ends_if f ih w s le false out = subst (λ (k : ℕ). End h k w) (sym (counts_none (suc f) w out)) out
    ends_if f ih w s le true now =
        subst (λ (k : ℕ). End h k w) (sym (counts_some f w now)) (now, ends_next f ih w s le now (m.inside h (m.next h w)) refl)

    ends_within : (f : ℕ) → EndsWithin f
    ends_within zero w s le =
        let out = at_once w s le (m.inside h w) refl in
        subst (λ (k : ℕ). End h k w) (sym (counts_none zero w out)) out
    ends_within (suc f) w s le = ends_if f (ends_within f) w s le (m.inside h w) refl

    -- the events of a slot are those after its switch until it ends
    pub slot_ends : (w : m.World) → m.IsSound w → End h (slot_events m h w) (m.next h w)
    unfolding left
    slot_ends w s =
        let v = m.next h w in ends_within (m.end h (m.slots h v) - m.clock h v) v (is.sound h w there s) (omega arith)
