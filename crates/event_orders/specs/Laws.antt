-- The laws of a machine's orders; they are clauses of functions of `laws`, and of crates that have a machine.
use Rattle.std.specs.Prelude.{◌≡◌, ◌≢◌, ◌⊎◌, ℕ, suc, ◌<◌, ◌≤◌, true, false, List, [], ◌∷◌}
use Rattle.std.specs.List.{All}
use Rattle.tp_base.specs.Table.{empty}
use Rattle.event_orders.specs.Machine.{Machine}
use Rattle.event_orders.specs.Orders.{run, slot_events, by_events, by_slots, cycles_left, after, Counted, owed_of, all_counted, drawn_events, drawn_slots}

-- equal in each part: each hart's, and what switches share
pub record Alike (m : Machine) (w v : m.World) : Type 0 where
  pub shared : m.SameShared w v
  pub each : (h : ℕ) → h < m.harts → m.Same h w v

-- no hart is in a slot
abbrev pub AreBetween : (m : Machine) → m.World → Type 0
AreBetween m w = (h : ℕ) → h < m.harts → m.inside h w ≡ false

-- each hart has had n slots
abbrev pub AreThrough : (m : Machine) → ℕ → m.World → Type 0
AreThrough m n w = (h : ℕ) → h < m.harts → n ≤ m.slots h w

-- ---- two events of different harts may change places

-- where both are of slots
abbrev pub CommuteLaw : Machine → Type 0
CommuteLaw m = (g h : ℕ) (w : m.World) → g < m.harts → h < m.harts → g ≢ h → m.IsSound w
    → m.inside g w ≡ true → m.inside h w ≡ true → Alike m (m.next g (m.next h w)) (m.next h (m.next g w))

-- and where one of them is a switch
abbrev pub PassLaw : Machine → Type 0
PassLaw m = (g h : ℕ) (w : m.World) → g < m.harts → h < m.harts → g ≢ h → m.IsSound w
    → m.inside g w ≡ true → m.inside h w ≡ false → Alike m (m.next g (m.next h w)) (m.next h (m.next g w))

-- ---- one slot

-- events of a hart alone with which its next slot has ended, and no later one has begun, are its switch and the slot's own
abbrev pub OneSlotLaw : Machine → Type 0
OneSlotLaw m = (h k : ℕ) (w : m.World) → h < m.harts → m.IsSound w → m.inside h w ≡ false
    → m.inside h (run m h k w) ≡ false → m.slots h (run m h k w) ≡ suc (m.slots h w) → k ≡ suc (slot_events m h w)

-- ---- by the least clock

-- event by event the harts come to their end: each event takes a cycle or more
abbrev pub EndsLaw : Machine → Type 0
EndsLaw m = (n f : ℕ) (w : m.World) → m.IsSound w → cycles_left m n w m.harts ≤ f
    → AreThrough m n (by_events m n f w).world

-- slot by slot they come to the same end, by the same switches in the same order
abbrev pub SlotsLaw : Machine → Type 0
SlotsLaw m = (n f : ℕ) (w : m.World) → m.IsSound w → AreBetween m w →
    let slow = by_events m n f w in
    let fast = by_slots m n f w in
    AreThrough m n slow.world → Alike m slow.world fast.world × (slow.switches ≡ fast.switches)

-- this switch comes before that one: by its clock, then by its hart
abbrev pub Precedes : ℕ × ℕ → ℕ × ℕ → Type 0
Precedes a b = (a.0 < b.0) ⊎ ((a.0 ≡ b.0) × (a.1 < b.1))

abbrev pub PrecedesFirst : ℕ × ℕ → List (ℕ × ℕ) → Type 0
PrecedesFirst a [] = Unit {0}
PrecedesFirst a (b ∷ later) = Precedes a b

-- each before the next
abbrev pub AreSorted : List (ℕ × ℕ) → Type 0
AreSorted [] = Unit {0}
AreSorted (a ∷ later) = PrecedesFirst a later × AreSorted later

abbrev pub SortedLaw : Machine → Type 0
SortedLaw m = (n f : ℕ) (w : m.World) → m.IsSound w → AreBetween m w → AreSorted (by_slots m n f w).switches

-- ---- in any order

-- nothing is owed yet
abbrev pub none_owed : {W : Type 0} → W → Counted W
none_owed w = record { world = w; owed = empty }

-- the worlds are the same, and no event is owed
pub record SameEnd (m : Machine) (w : m.World) (s : Counted m.World) : Type 0 where
  pub alike : Alike m w s.world
  pub paid : (h : ℕ) → h < m.harts → owed_of h s ≡ 0

-- after events that leave no hart in a slot, whatever their order
abbrev pub AnyOrderLaw : Machine → Type 0
AnyOrderLaw m = (order : List ℕ) (w : m.World) → All (λ h. h < m.harts) order → m.IsSound w → AreBetween m w
    → AreBetween m (after m order w) → SameEnd m (after m order w) (all_counted m order (none_owed w))

-- where words draw until all harts are through
abbrev pub DrawnLaw : Machine → Type 0
DrawnLaw m = (n : ℕ) (words : List ℕ) (w : m.World) → m.IsSound w → AreBetween m w
    → AreThrough m n (drawn_events m n words w)
    → SameEnd m (drawn_events m n words w) (drawn_slots m n words (none_owed w))
