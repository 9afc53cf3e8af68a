-- Which hart comes first, as it is found one hart after the other.
use Rattle.std.proofs.Common.{◌≡◌, ◌∙◌, ℕ, suc, ◌<◌, ◌≤◌, Bool, Option, Some, sym, ap, lt-ltb, le-ltb}
use Rattle.std.specs.Prelude.{if◌then◌else◌}
use Rattle.event_orders.specs.Machine.{Machine}
use Rattle.event_orders.specs.Orders.{earlier, first}

module _ (m : Machine) (w : m.World) where
  -- the second, where its clock is less
  pub second : (o : Option ℕ) (g h : ℕ) → o ≡ Some g → m.clock h w < m.clock g w → Some h ≡ earlier m w o h
  second o g h is less =
      sym (ap (λ (x : Option ℕ). earlier m w x h) is
      ∙ ap (λ (b : Bool). if b then Some h else Some g) (lt-ltb (m.clock h w) (m.clock g w) less))

  pub still : (o : Option ℕ) (g h : ℕ) → o ≡ Some g → m.clock g w ≤ m.clock h w → o ≡ earlier m w o h
  still o g h is no_less =
      is ∙ sym (ap (λ (x : Option ℕ). earlier m w x h) is
      ∙ ap (λ (b : Bool). if b then Some h else Some g) (le-ltb (m.clock h w) (m.clock g w) no_less))

  -- of one hart more: it has slots left, or it has none
  module _ (n h : ℕ) where
    abbrev next_if : Bool → Option ℕ
    next_if b = if b then earlier m w (first m n w h) h else first m n w h

    pub has_left : m.slots h w < n → first m n w (suc h) ≡ earlier m w (first m n w h) h
    unfolding first
    has_left left = ap next_if (lt-ltb (m.slots h w) n left)

    pub has_none : n ≤ m.slots h w → first m n w (suc h) ≡ first m n w h
    unfolding first
    has_none all = ap next_if (le-ltb (m.slots h w) n all)
