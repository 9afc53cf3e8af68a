-- Slot by slot the switches come by their clocks, and then by their harts' numbers.
use Rattle.std.proofs.Common.{◌≡◌, ◌≢◌, ℕ, zero, suc, ◌<◌, inl, inr, false, Option, Some, None, ◌∙◌, refl, arith}
use Rattle.std.proofs.lemmas.Bool.{cases_lt}
use Rattle.event_orders.specs.Machine.{Machine, IsMachine}
use Rattle.event_orders.specs.Orders.{slot_events, run_slot, first, by_slots}
use Rattle.event_orders.specs.Laws.{AreBetween, Precedes, PrecedesFirst, AreSorted, SortedLaw}
use Rattle.event_orders.proofs.Steps.{run_sound, run_others, run_ends, run_clock, slot_ends}
use Rattle.event_orders.proofs.Commuting.{this_or}
use Rattle.event_orders.proofs.First.{NotAfter, IsFirst, is_first}
use Rattle.event_orders.proofs.Slots.{slot_if}

module _ (m : Machine) (is : IsMachine m) (n : ℕ) where
  -- each hart that has slots left comes after this switch
  abbrev Later : ℕ × ℕ → m.World → Type 0
  Later a v = (g : ℕ) → g < m.harts → m.slots g v < n → Precedes a (m.clock g v, g)

  other_later : (c h d g e : ℕ) → g ≢ h → NotAfter c h d g → e ≡ d → Precedes (c, h) (e, g)
  other_later c h d g e ne (inl less) same = inl (omega (arith, less, same))
  other_later c h d g e ne (inr both) same =
      let clocks = both.0 in
      let le = both.1 in
      elim (cases_lt h g) [
        | inl less ↦ inr (omega (arith, clocks, same), less)
        | inr not ↦ absurd (ne (omega (arith, le, not)))
      ]

  -- ---- a slot of the first hart

  module _ (h : ℕ) (v : m.World) (s : m.IsSound v) (out : AreBetween m v) (leads : IsFirst m n v m.harts h) where
    begun_sound : m.IsSound (m.next h v)
    begun_sound = is.sound h v leads.hart s

    pub slot_sound : m.IsSound (run_slot m h v)
    unfolding run_slot
    slot_sound = run_sound m is h leads.hart (slot_events m h v) (m.next h v) begun_sound

    others_still : (g : ℕ) → g ≢ h → m.Same g (run_slot m h v) v
    unfolding run_slot
    others_still g ne =
        (is.same g).on _ (m.next h v) v (run_others m is h leads.hart g (slot_events m h v) (m.next h v) ne begun_sound)
        (is.others g h v leads.hart ne s)

    own_between : m.inside h (run_slot m h v) ≡ false
    unfolding run_slot
    own_between = run_ends m is h leads.hart (slot_events m h v) (m.next h v) (slot_ends m is h leads.hart v s)

    pub slot_between : AreBetween m (run_slot m h v)
    slot_between g =
        this_or (λ j. j < m.harts → m.inside j (run_slot m h v) ≡ false) h (λ _. own_between)
        (λ j ne there. (is.as_far j _ v (others_still j ne)).inside ∙ out j there) g

    own_later : m.clock h v < m.clock h (run_slot m h v)
    unfolding run_slot
    own_later =
        let rises = is.rises h v leads.hart s in
        let more = run_clock m is h leads.hart (slot_events m h v) (m.next h v) begun_sound in
        omega (arith, rises, more)

    pub slot_later : Later (m.clock h v, h) (run_slot m h v)
    slot_later g =
        this_or
        (λ j. j < m.harts → m.slots j (run_slot m h v) < n → Precedes (m.clock h v, h) (m.clock j (run_slot m h v), j)) h
        (λ _ _. inl own_later)
        (λ j ne there left.
        let same = is.as_far j _ v (others_still j ne) in
        let slots = same.slots in
        other_later (m.clock h v) h (m.clock j v) j (m.clock j (run_slot m h v)) ne
        (leads.leads j there (omega (arith, left, slots))) same.clock) g

  -- ---- all slots

  abbrev SortedFrom : ℕ → Type 0
  SortedFrom f = (v : m.World) → m.IsSound v → AreBetween m v → AreSorted (by_slots m n f v).switches

  follows_if : (f : ℕ) (a : ℕ × ℕ) (v : m.World) → Later a v → (o : Option ℕ) → first m n v m.harts ≡ o
      → PrecedesFirst a (slot_if m is n f v o).switches
  follows_if f a v later None e = tt
  follows_if f a v later (Some h) e = let leads = is_first m n v h e in later h leads.hart leads.left

  follows : (f : ℕ) (a : ℕ × ℕ) (v : m.World) → Later a v → PrecedesFirst a (by_slots m n f v).switches
  unfolding by_slots
  follows zero a v later = tt
  follows (suc f) a v later = follows_if f a v later (first m n v m.harts) refl

  sorted_if : (f : ℕ) → SortedFrom f → (v : m.World) → m.IsSound v → AreBetween m v → (o : Option ℕ)
      → first m n v m.harts ≡ o → AreSorted (slot_if m is n f v o).switches
  sorted_if f ih v s out None e = tt
  sorted_if f ih v s out (Some h) e =
      let leads = is_first m n v h e in (
        follows f (m.clock h v, h) (run_slot m h v) (slot_later h v s out leads),
        ih (run_slot m h v) (slot_sound h v s out leads) (slot_between h v s out leads),
      )

  pub sorted_from : (f : ℕ) → SortedFrom f
  unfolding by_slots
  sorted_from zero v s out = tt
  sorted_from (suc f) v s out = sorted_if f (sorted_from f) v s out (first m n v m.harts) refl

pub sorted_law : (m : Machine) → IsMachine m → SortedLaw m
sorted_law m is n f w s out = sorted_from m is n f w s out
