-- A machine's harts run event by event, and slot by slot.
use Rattle.std.specs.Prelude.{ℕ, zero, suc, ◌+◌, ◌-◌, ◌%◌, ◌++◌, nat_lt, if◌then◌else◌, Bool, true, List, [], ◌∷◌, length, slice_get, Option, Some, None}
use Rattle.tp_base.specs.Table.{Table, at, put}
use Rattle.event_orders.specs.Machine.{Machine}

-- ---- one slot

-- so many events of one hart
unfoldable pub run : (m : Machine) → ℕ → ℕ → m.World → m.World
run m h zero w = w
run m h (suc k) w = run m h k (m.next h w)

-- how many events of a hart come until it is in no slot: this many at most
unfoldable pub count_events : (m : Machine) → ℕ → ℕ → m.World → ℕ
count_events m h zero w = 0
count_events m h (suc f) w = if m.inside h w then suc (count_events m h f (m.next h w)) else 0

-- the events of a hart's next slot, without its switch: each takes a cycle or more
abbrev pub slot_events : (m : Machine) → ℕ → m.World → ℕ
slot_events m h w = let begun = m.next h w in count_events m h (m.end h (m.slots h begun) - m.clock h begun) begun

-- its switch, and then its whole slot in one stretch
unfoldable pub run_slot : (m : Machine) → ℕ → m.World → m.World
run_slot m h w = run m h (slot_events m h w) (m.next h w)

-- ---- the order of the least clock

-- the second, where its clock is less
abbrev pub earlier : (m : Machine) → m.World → Option ℕ → ℕ → Option ℕ
earlier m w None h = Some h
earlier m w (Some g) h = if nat_lt (m.clock h w) (m.clock g w) then Some h else Some g

-- of the harts below this number that have had fewer than n slots the one with the least clock; of such the first
unfoldable pub first : (m : Machine) → ℕ → m.World → ℕ → Option ℕ
first m n w zero = None
first m n w (suc h) = if nat_lt (m.slots h w) n then earlier m w (first m n w h) h else first m n w h

-- where a run leads, and its switches in their order: the clock before each, and whose it was
pub record Ran (W : Type 0) : Type 0 where
  pub world : W
  pub switches : List (ℕ × ℕ)

abbrev pub stopped : {W : Type 0} → W → Ran W
stopped w = record { world = w; switches = [] }

-- a run that begins with this switch
abbrev pub with_switch : {W : Type 0} → ℕ × ℕ → Ran W → Ran W
with_switch x r = record { world = r.world; switches = x ∷ r.switches }

-- event by event, this many at most, until each hart has had n slots
unfoldable pub by_events : (m : Machine) → ℕ → ℕ → m.World → Ran m.World
by_events m n zero w = stopped w
by_events m n (suc f) w = elim (first m n w m.harts) [
  | None ↦ stopped w
  | Some h ↦
      let later = by_events m n f (m.next h w) in
      if m.inside h w then later else with_switch (m.clock h w, h) later
]

-- slot by slot, this many at most
unfoldable pub by_slots : (m : Machine) → ℕ → ℕ → m.World → Ran m.World
by_slots m n zero w = stopped w
by_slots m n (suc f) w = elim (first m n w m.harts) [
  | None ↦ stopped w
  | Some h ↦ with_switch (m.clock h w, h) (by_slots m n f (run_slot m h w))
]

-- the cycles that the harts below this number have before their slot n, in sum
unfoldable pub cycles_left : (m : Machine) → ℕ → m.World → ℕ → ℕ
cycles_left m n w zero = 0
cycles_left m n w (suc h) = cycles_left m n w h + (m.start h n - m.clock h w)

-- ---- any order

-- events of these harts, in this order
unfoldable pub after : (m : Machine) → List ℕ → m.World → m.World
after m [] w = w
after m (h ∷ hs) w = after m hs (m.next h w)

-- a world in which slots were run whole, and how many of each hart's events have not been asked for yet
pub record Counted (W : Type 0) : Type 0 where
  pub world : W
  pub owed : Table ℕ

abbrev pub owed_of : {W : Type 0} → ℕ → Counted W → ℕ
owed_of h s = at 0 s.owed h

abbrev pub counted_if : (m : Machine) → ℕ → Counted m.World → ℕ → Counted m.World
counted_if m h s zero = record { world = run_slot m h s.world; owed = put s.owed h (slot_events m h s.world) }
counted_if m h s (suc k) = record { world = s.world; owed = put s.owed h k }

-- an event of a hart is asked for: where none is owed its next slot is run whole
unfoldable pub counted : (m : Machine) → ℕ → Counted m.World → Counted m.World
counted m h s = counted_if m h s (owed_of h s)

unfoldable pub all_counted : (m : Machine) → List ℕ → Counted m.World → Counted m.World
all_counted m [] s = s
all_counted m (h ∷ hs) s = all_counted m hs (counted m h s)

-- ---- an order that words draw

-- the numbers below this one that pass a test, ascending
unfoldable pub passing : (ℕ → Bool) → ℕ → List ℕ
passing test zero = []
passing test (suc h) = if test h then passing test h ++ h ∷ [] else passing test h

-- the one that a word names
abbrev pub named : ℕ → List ℕ → Option ℕ
named word hs = slice_get hs (word % length hs)

abbrev pub has_left : (m : Machine) → ℕ → m.World → ℕ → Bool
has_left m n w h = nat_lt (m.slots h w) n

-- each word draws one of the harts that have had fewer than n slots; its next event comes
unfoldable pub drawn_events : (m : Machine) → ℕ → List ℕ → m.World → m.World
drawn_events m n [] w = w
drawn_events m n (word ∷ words) w = elim (named word (passing (has_left m n w) m.harts)) [
  | None ↦ w
  | Some h ↦ drawn_events m n words (m.next h w)
]

abbrev pub is_owed_or : Bool → ℕ → Bool
is_owed_or left zero = left
is_owed_or left (suc k) = true

-- a hart of which events are owed is still in its last slot
abbrev pub is_owed_or_left : (m : Machine) → ℕ → Counted m.World → ℕ → Bool
is_owed_or_left m n s h = is_owed_or (has_left m n s.world h) (owed_of h s)

-- the same, each slot run whole when its hart is first drawn
unfoldable pub drawn_slots : (m : Machine) → ℕ → List ℕ → Counted m.World → Counted m.World
drawn_slots m n [] s = s
drawn_slots m n (word ∷ words) s = elim (named word (passing (is_owed_or_left m n s) m.harts)) [
  | None ↦ s
  | Some h ↦ drawn_slots m n words (counted m h s)
]
