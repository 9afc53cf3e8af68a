-- Event by event the harts come to their end.
use Rattle.std.proofs.Common.{◌≡◌, ◌≢◌, ℕ, zero, suc, ◌+◌, ◌-◌, ◌<◌, ◌≤◌, inl, inr, Bool, true, false, Option, Some, None, refl, subst, arith}
use Rattle.std.specs.Prelude.{if◌then◌else◌}
use Rattle.std.proofs.lemmas.Bool.{cases_lt}
use Rattle.event_orders.specs.Machine.{Machine, IsMachine}
use Rattle.event_orders.specs.Orders.{first, Ran, with_switch, by_events, cycles_left}
use Rattle.event_orders.specs.Laws.{AreThrough, EndsLaw}
use Rattle.event_orders.proofs.First.{is_first, nobody}
use Rattle.event_orders.proofs.Slots.{event_if}

module _ (m : Machine) (is : IsMachine m) (n : ℕ) where
  abbrev left : ℕ → m.World → ℕ
  left h w = m.start h n - m.clock h w

  -- ---- no hart has more cycles left than all have

  no_more : (h b : ℕ) (w : m.World) → h < b → left h w ≤ cycles_left m n w b
  unfolding cycles_left
  no_more h zero w under = absurd (omega (arith, under))
  no_more h (suc b) w under = elim (cases_lt h b) [
    | inl less ↦ let le = no_more h b w less in omega (arith, le)
    | inr not ↦
        let same : h ≡ b = omega (arith, under, not) in
        subst (λ (j : ℕ). left h w ≤ cycles_left m n w b + left j w) same (omega arith)
  ]

  none_left : (w : m.World) → m.IsSound w → cycles_left m n w m.harts ≤ 0 → AreThrough m n w
  none_left w s le h there = elim (cases_lt (m.slots h w) n) [
    | inl less ↦
        let some = is.before h n w there s less in
        let all = no_more h m.harts w there in
        absurd (omega (arith, some, all, le))
    | inr not ↦ not
  ]

  -- ---- an event takes some of them

  module _ (h : ℕ) (w : m.World) (there : h < m.harts) (s : m.IsSound w) (less : m.slots h w < n) where
    others_same : (b : ℕ) → b ≢ h → m.clock b (m.next h w) ≡ m.clock b w
    others_same b ne = (is.as_far b _ w (is.others b h w there ne s)).clock

    below_same : (b : ℕ) → b ≤ h → cycles_left m n (m.next h w) b ≡ cycles_left m n w b
    unfolding cycles_left
    below_same zero le = refl
    below_same (suc b) le =
        let below = below_same b (omega (arith, le)) in
        let one = others_same b (λ q. omega (arith, le, q)) in
        omega (arith, below, one)

    own_fewer : left h (m.next h w) < left h w
    own_fewer = let rises = is.rises h w there s in let some = is.before h n w there s less in omega (arith, rises, some)

    pub fewer : (b : ℕ) → h < b → cycles_left m n (m.next h w) b < cycles_left m n w b
    unfolding cycles_left
    fewer zero under = absurd (omega (arith, under))
    fewer (suc b) under = elim (cases_lt h b) [
      | inl before ↦
          let below = fewer b before in
          let one = others_same b (λ q. omega (arith, before, q)) in
          omega (arith, below, one)
      | inr not ↦
          let same : h ≡ b = omega (arith, under, not) in
          let below = below_same b (omega (arith, not)) in
          let own = subst (λ (j : ℕ). left j (m.next h w) < left j w) same own_fewer in
          omega (arith, below, own)
    ]

  -- ---- so many events are enough

  abbrev EndsBy : ℕ → Type 0
  EndsBy f = (w : m.World) → m.IsSound w → cycles_left m n w m.harts ≤ f → AreThrough m n (by_events m n f w).world

  through_either : (b : Bool) (x : ℕ × ℕ) (r : Ran m.World) → AreThrough m n r.world
      → AreThrough m n (if b then r else with_switch x r).world
  through_either true x r all = all
  through_either false x r all = all

  ends_if : (f : ℕ) → EndsBy f → (w : m.World) → m.IsSound w → cycles_left m n w m.harts ≤ suc f → (o : Option ℕ)
      → first m n w m.harts ≡ o → AreThrough m n (event_if m is n f w o).world
  ends_if f ih w s le None e = nobody m n w e
  ends_if f ih w s le (Some h) e =
      let leads = is_first m n w h e in
      let less = fewer h w leads.hart s leads.left m.harts leads.hart in
      through_either (m.inside h w) (m.clock h w, h) (by_events m n f (m.next h w))
      (ih (m.next h w) (is.sound h w leads.hart s) (omega (arith, less, le)))

  pub ends_by : (f : ℕ) → EndsBy f
  unfolding by_events
  ends_by zero w s le = none_left w s le
  ends_by (suc f) w s le = ends_if f (ends_by f) w s le (first m n w m.harts) refl

pub ends_law : (m : Machine) → IsMachine m → EndsLaw m
ends_law m is n f w s le = ends_by m is n f w s le
