-- Events of a hart alone that end its next slot are its switch and the slot's own.
use Rattle.std.proofs.Common.{◌≡◌, ℕ, zero, suc, ◌<◌, ◌≤◌, Bool, true, false, ap, sym, ◌∙◌, refl, arith, true≢false}
use Rattle.event_orders.specs.Machine.{Machine, IsMachine}
use Rattle.event_orders.specs.Orders.{run, slot_events}
use Rattle.event_orders.specs.Laws.{OneSlotLaw}
use Rattle.event_orders.proofs.Steps.{End, slot_ends}

module _ (m : Machine) (is : IsMachine m) (h : ℕ) (there : h < m.harts) where
  -- ---- an event ends one slot at most, and none is taken back

  up_inside : (w : m.World) → m.inside h w ≡ true → (b : Bool) → m.inside h (m.next h w) ≡ b
      → m.slots h w ≤ m.slots h (m.next h w)
  up_inside w now true after = let e = is.goes_on h w now after in omega (arith, e)
  up_inside w now false after = let e = is.ends h w now after in omega (arith, e)

  up_if : (w : m.World) → m.IsSound w → (b : Bool) → m.inside h w ≡ b → m.slots h w ≤ m.slots h (m.next h w)
  up_if w s true now = up_inside w now (m.inside h (m.next h w)) refl
  up_if w s false out = let e = is.begins_slot h w there s out in omega (arith, e)

  up : (k : ℕ) (w : m.World) → m.IsSound w → m.slots h w ≤ m.slots h (run m h k w)
  unfolding run
  up zero w s = omega arith
  up (suc k) w s =
      let one = up_if w s (m.inside h w) refl in
      let more = up k (m.next h w) (is.sound h w there s) in
      omega (arith, one, more)

  -- ---- from within a slot to where it is in none

  out_then : (k : ℕ) → ((w : m.World) → m.IsSound w → m.inside h w ≡ true → m.inside h (run m h k w) ≡ false
      → m.slots h w < m.slots h (run m h k w))
      → (w : m.World) → m.IsSound w → m.inside h w ≡ true → (b : Bool) → m.inside h (m.next h w) ≡ b
      → m.inside h (run m h k (m.next h w)) ≡ false
      → m.slots h w < m.slots h (run m h k (m.next h w))
  out_then k ih w s now true after out =
      let e = is.goes_on h w now after in let more = ih (m.next h w) (is.sound h w there s) after out in omega (arith, e, more)
  out_then k ih w s now false after out =
      let e = is.ends h w now after in let more = up k (m.next h w) (is.sound h w there s) in omega (arith, e, more)

  one_more : (k : ℕ) (w : m.World) → m.IsSound w → m.inside h w ≡ true → m.inside h (run m h k w) ≡ false
      → m.slots h w < m.slots h (run m h k w)
  unfolding run
  one_more zero w s now out = absurd (true≢false (sym now ∙ out))
  one_more (suc k) w s now out = out_then k (one_more k) w s now (m.inside h (m.next h w)) refl out

  -- and so from one switch to before the next but one
  another : (k : ℕ) (w : m.World) → m.IsSound w → m.inside h w ≡ false → m.inside h (run m h (suc k) w) ≡ false
      → m.slots h w < m.slots h (run m h (suc k) w)
  unfolding run
  another k w s out later =
      let e = is.begins_slot h w there s out in
      let more = one_more k (m.next h w) (is.sound h w there s) (is.begins h w there s out) later in
      omega (arith, e, more)

  -- ---- the events that end a slot end just it

  ends_one : (c : ℕ) (w : m.World) → m.inside h w ≡ true → End m is h c w
      → m.slots h (run m h c w) ≡ suc (m.slots h w)
  unfolding run
  ends_one zero w now e = absurd (true≢false (sym now ∙ e))
  ends_one (suc zero) w now e = is.ends h w now e.1
  ends_one (suc (suc c)) w now e = ends_one (suc c) (m.next h w) e.1.0 e.1 ∙ ap suc (is.goes_on h w now e.1.0)

  -- and no others do
  no_others : (k c : ℕ) (w : m.World) → m.IsSound w → End m is h c w → m.inside h (run m h k w) ≡ false
      → m.slots h (run m h k w) ≡ m.slots h (run m h c w) → k ≡ c
  unfolding run
  no_others zero zero w s e out same = refl
  no_others zero (suc c) w s e out same = absurd (true≢false (sym e.0 ∙ out))
  no_others (suc k) zero w s e out same = let more = another k w s e out in absurd (omega (arith, more, same))
  no_others (suc k) (suc c) w s e out same = ap suc (no_others k c (m.next h w) (is.sound h w there s) e.1 out same)

  next_slot : (k : ℕ) (w : m.World) → m.IsSound w → m.inside h w ≡ false
      → m.inside h (run m h k w) ≡ false → m.slots h (run m h k w) ≡ suc (m.slots h w)
      → k ≡ suc (slot_events m h w)
  unfolding run
  next_slot zero w s out later one = absurd (omega (arith, one))
  next_slot (suc k) w s out later one =
      let v = m.next h w in
      let ends = slot_ends m is h there w s in
      ap suc (no_others k (slot_events m h w) v (is.sound h w there s) ends later
      (one ∙ ap suc (sym (is.begins_slot h w there s out)) ∙ sym (ends_one (slot_events m h w) v (is.begins h w there s out) ends)))

pub one_slot_law : (m : Machine) → IsMachine m → OneSlotLaw m
one_slot_law m is h k w there s out later one = next_slot m is h there k w s out later one
