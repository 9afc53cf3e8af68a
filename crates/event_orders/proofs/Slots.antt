-- Slot by slot a run comes to where event by event it comes, by the least clock.
use Rattle.std.proofs.Common.{◌≡◌, ℕ, zero, suc, ◌<◌, ◌≤◌, inl, inr, Bool, true, false, List, ◌∷◌, Option, Some, None, ap, ap₂, sym, ◌∙◌, refl, subst, arith, true≢false}
use Rattle.std.specs.Prelude.{if◌then◌else◌}
use Rattle.tp_base.specs.Table.{Table, empty, at, put}
use Rattle.event_orders.specs.Machine.{Machine, IsMachine}
use Rattle.event_orders.specs.Orders.{slot_events, run_slot, first, Ran, stopped, with_switch, by_events, by_slots}
use Rattle.event_orders.specs.Laws.{Alike, AreBetween, AreThrough, SlotsLaw}
use Rattle.event_orders.proofs.Steps.{some_left, run_clock, run_slots}
use Rattle.event_orders.proofs.Ahead.{Ahead, start, same_between, alike_between, work, turn}
use Rattle.event_orders.proofs.Commuting.{this_or}
use Rattle.event_orders.proofs.First.{NotAfter, not_after, IsFirst, is_first, chosen, through}

module _ (m : Machine) (is : IsMachine m) (n : ℕ) where
  -- a hart that is in a slot has slots left
  abbrev pub InsideLeft : m.World → Type 0
  InsideLeft w = (h : ℕ) → h < m.harts → m.inside h w ≡ true → m.slots h w < n

  own_left : (h : ℕ) (w : m.World) → h < m.harts → m.IsSound w → m.slots h w < n → (b : Bool) → m.inside h w ≡ b → m.inside h (m.next h w) ≡ true
      → m.slots h (m.next h w) < n
  own_left h w there s left true now after = let same = is.goes_on h w now after in omega (arith, left, same)
  own_left h w there s left false out after = let same = is.begins_slot h w there s out in omega (arith, left, same)

  pub next_left : (h : ℕ) (w : m.World) → h < m.harts → m.IsSound w → m.slots h w < n → InsideLeft w
      → InsideLeft (m.next h w)
  next_left h w there s left all g =
      this_or (λ j. j < m.harts → m.inside j (m.next h w) ≡ true → m.slots j (m.next h w) < n) h
      (λ _ after. own_left h w there s left (m.inside h w) refl after)
      (λ j ne there' after.
      let same = is.as_far j _ w (is.others j h w there ne s) in
      let before = all j there' (sym same.inside ∙ after) in
      let slots = same.slots in
      omega (arith, before, slots)) g

  pub none_inside : (w : m.World) → AreBetween m w → InsideLeft w
  none_inside w out h there now = absurd (true≢false (sym now ∙ out h there))

  out_if : (h : ℕ) (w : m.World) → h < m.harts → InsideLeft w → n ≤ m.slots h w → (b : Bool) → m.inside h w ≡ b
      → m.inside h w ≡ false
  out_if h w there left all true now = let less = left h there now in absurd (omega (arith, less, all))
  out_if h w there left all false out = out

  pub all_between : (w : m.World) → InsideLeft w → AreThrough m n w → AreBetween m w
  all_between w left all h there = out_if h w there left (all h there) (m.inside h w) refl

  -- ---- how far harts are in a world, and in one ahead of it

  module _ (w v : m.World) (owed : Table ℕ) (a : Ahead m is w v owed) where
    more_slots : (h : ℕ) → h < m.harts → m.slots h w ≤ m.slots h v
    more_slots h there =
        let more = run_slots m is h there (at 0 owed h) w (a.ends h there) in
        let same = (is.as_far h _ v (a.same h there)).slots in
        omega (arith, more, same)

    later_clock : (h : ℕ) → h < m.harts → m.clock h w ≤ m.clock h v
    later_clock h there =
        let more = run_clock m is h there (at 0 owed h) w a.sound in
        let same = (is.as_far h _ v (a.same h there)).clock in
        omega (arith, more, same)

    pub through_too : AreThrough m n w → AreThrough m n v
    through_too all h there = let more = more_slots h there in let enough = all h there in omega (arith, more, enough)

    -- a hart whose clock is the same leads one whose clock is no less
    leads_too : (c d e h g : ℕ) → d ≤ e → NotAfter c h d g → NotAfter c h e g
    leads_too c d e h g le (inl less) = inl (omega (arith, le, less))
    leads_too c d e h g le (inr both) = let same = both.0 in not_after c h e g (omega (arith, le, same)) both.1

    -- at a switch the same hart comes first in both
    pub first_too : (h : ℕ) → IsFirst m n w m.harts h → m.inside h w ≡ false → IsFirst m n v m.harts h
    first_too h f out =
        let same = is.as_far h w v (same_between m is w v owed a h f.hart out) in
        let slots = same.slots in
        let left = f.left in
        record {
          hart = f.hart;
          left = omega (arith, slots, left);
          leads = λ g there left'.
              let more = more_slots g there in
              subst (λ (c : ℕ). NotAfter c h (m.clock g v) g) same.clock
              (leads_too (m.clock h w) (m.clock g w) (m.clock g v) h g (later_clock g there)
              (f.leads g there (omega (arith, more, left'))));
        }

  -- ---- a step of each run

  abbrev pub event_if : ℕ → m.World → Option ℕ → Ran m.World
  event_if f w o = elim o [
    | None ↦ stopped w
    | Some h ↦
        let later = by_events m n f (m.next h w) in
        if m.inside h w then later else with_switch (m.clock h w, h) later
  ]

  abbrev pub slot_if : ℕ → m.World → Option ℕ → Ran m.World
  slot_if f v o = elim o [
    | None ↦ stopped v
    | Some h ↦ with_switch (m.clock h v, h) (by_slots m n f (run_slot m h v))
  ]

  slots_stop : (f : ℕ) (v : m.World) → AreThrough m n v → by_slots m n f v ≡ stopped v
  unfolding by_slots
  slots_stop zero v all = refl
  slots_stop (suc f) v all = ap (slot_if f v) (through m n v all)

  slots_go : (f h : ℕ) (v : m.World) → IsFirst m n v m.harts h
      → by_slots m n (suc f) v ≡ with_switch (m.clock h v, h) (by_slots m n f (run_slot m h v))
  unfolding by_slots
  slots_go f h v leads = ap (slot_if f v) (chosen m n v h leads)

  -- ---- both runs

  -- where the one has come to its end they agree
  abbrev Agree : Ran m.World → Ran m.World → Type 0
  Agree slow fast = AreThrough m n slow.world → Alike m slow.world fast.world × (slow.switches ≡ fast.switches)

  record Both (w v : m.World) (owed : Table ℕ) : Type 0 where
    ahead : Ahead m is w v owed
    left : InsideLeft w

  stop_agree : (k : ℕ) (w v : m.World) (owed : Table ℕ) → Both w v owed → AreThrough m n w
      → Agree (stopped w) (by_slots m n k v)
  stop_agree k w v owed g all =
      subst (Agree (stopped w)) (sym (slots_stop k v (through_too w v owed g.ahead all)))
      (λ _. (alike_between m is w v owed g.ahead (all_between w g.left all), refl))

  abbrev AllAgree : ℕ → Type 0
  AllAgree f = (k : ℕ) → f ≤ k → (w v : m.World) (owed : Table ℕ) → Both w v owed
      → Agree (by_events m n f w) (by_slots m n k v)

  module _ (f : ℕ) (ih : AllAgree f) (w v : m.World) (owed : Table ℕ) (g : Both w v owed) (h : ℕ)
      (leads : IsFirst m n w m.harts h) where
    left_then : InsideLeft (m.next h w)
    left_then = next_left h w leads.hart g.ahead.sound leads.left g.left

    work_agree : (k : ℕ) → suc f ≤ k → m.inside h w ≡ true → Agree (by_events m n f (m.next h w)) (by_slots m n k v)
    work_agree k le now =
        let some = some_left m is h (at 0 owed h) w (g.ahead.ends h leads.hart) now in
        ih k (omega (arith, le)) (m.next h w) v (put owed h some.rest)
        (record { ahead = work m is w v owed g.ahead h leads.hart some.rest some.one_more; left = left_then })

    turn_agree : (k : ℕ) → suc f ≤ k → m.inside h w ≡ false
        → Agree (with_switch (m.clock h w, h) (by_events m n f (m.next h w))) (by_slots m n k v)
    turn_agree zero le out = absurd (omega (arith, le))
    turn_agree (suc k) le out =
        subst (Agree (with_switch (m.clock h w, h) (by_events m n f (m.next h w))))
        (sym (slots_go k h v (first_too w v owed g.ahead h leads out)))
        (λ all.
        let later = ih k (omega (arith, le)) (m.next h w) (run_slot m h v) (put owed h (slot_events m h v))
        (record { ahead = turn m is w v owed g.ahead h leads.hart out; left = left_then }) all in
        let same = is.as_far h w v (same_between m is w v owed g.ahead h leads.hart out) in
        (later.0, ap₂ (λ (c : ℕ) (cs : List (ℕ × ℕ)). (c, h) ∷ cs) same.clock later.1))

    event_agree : (k : ℕ) → suc f ≤ k → (b : Bool) → m.inside h w ≡ b
        → Agree (if b then by_events m n f (m.next h w) else with_switch (m.clock h w, h) (by_events m n f (m.next h w)))
        (by_slots m n k v)
    event_agree k le true now = work_agree k le now
    event_agree k le false out = turn_agree k le out

  agree_if : (f : ℕ) → AllAgree f → (k : ℕ) → suc f ≤ k → (w v : m.World) (owed : Table ℕ) → Both w v owed
      → (o : Option ℕ) → first m n w m.harts ≡ o → Agree (event_if f w o) (by_slots m n k v)
  agree_if f ih k le w v owed g None e = λ all. stop_agree k w v owed g all all
  agree_if f ih k le w v owed g (Some h) e = event_agree f ih w v owed g h (is_first m n w h e) k le (m.inside h w) refl

  agree : (f : ℕ) → AllAgree f
  unfolding by_events
  agree zero k le w v owed g = λ all. stop_agree k w v owed g all all
  agree (suc f) k le w v owed g = agree_if f (agree f) k le w v owed g (first m n w m.harts) refl

  pub agree_from : (f : ℕ) (w : m.World) → m.IsSound w → AreBetween m w → Agree (by_events m n f w) (by_slots m n f w)
  agree_from f w s out =
      agree f f (omega arith) w w empty (record { ahead = start m is w s out; left = none_inside w out })

pub slots_law : (m : Machine) → IsMachine m → SlotsLaw m
slots_law m is n f w s out = agree_from m is n f w s out
