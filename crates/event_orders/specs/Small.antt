-- A small machine: each hart has a number, switches share one, and one is written by all events and read by none.
use Rattle.std.specs.Prelude.{◌≡◌, ℕ, suc, ◌+◌, ◌<◌, ◌≤◌, ◌++◌, nat_lt, if◌then◌else◌, Bool, true, false, List, [], ◌∷◌}
use Rattle.tp_base.specs.Table.{Table, empty, at, put}
use Rattle.event_orders.specs.Machine.{Machine}

pub record Hart : Type 0 where
  pub state : ℕ  -- all that it and its domains have
  pub clock : ℕ
  pub slots : ℕ
  pub inside : Bool

pub record World : Type 0 where
  pub harts : Table Hart
  pub shared : ℕ  -- what switches alone read and write
  pub marks : ℕ  -- what any event writes and none reads
  pub used : List (ℕ × ℕ)  -- for each switch its hart, and its cycles

-- what its events do: any functions of what they may read
pub record Small : Type 0 where
  pub count : ℕ  -- of harts
  pub start : ℕ → ℕ → ℕ  -- of a hart's slot
  pub end : ℕ → ℕ → ℕ
  pub most : ℕ  -- cycles of one event
  pub work : ℕ → ℕ → ℕ → ℕ  -- by its number, its slot and its state: the hart's state after an event of the slot
  pub cycles : ℕ → ℕ → ℕ → ℕ
  pub turn : ℕ → ℕ → ℕ → ℕ → ℕ  -- and by what switches share: the state after the switch into the slot
  pub leaves : ℕ → ℕ → ℕ → ℕ → ℕ  -- what is shared then
  pub takes : ℕ → ℕ → ℕ → ℕ → ℕ  -- the switch's cycles
  pub mark : ℕ → ℕ → ℕ  -- by the event's hart and the marks: the marks after it

abbrev pub idle : Hart
idle = record { state = 0; clock = 0; slots = 0; inside = false }

abbrev pub hart_of : ℕ → World → Hart
hart_of h w = at idle w.harts h

-- ---- events

-- in its slot k still, or past its end
abbrev pub stands : ℕ → ℕ → ℕ → Bool → Hart
stands state clock k true = record { state = state; clock = clock; slots = k; inside = true }
stands state clock k false = record { state = state; clock = clock; slots = suc k; inside = false }

abbrev pub worked : Small → ℕ → Hart → Hart
worked p h x =
    let now = x.clock + p.cycles h x.slots x.state in
    stands (p.work h x.slots x.state) now x.slots (nat_lt now (p.end h x.slots))

-- its work is done, and it waits for the slot's start
abbrev pub turned : Small → ℕ → Hart → ℕ → Hart
turned p h x shared =
    record { state = p.turn h x.slots x.state shared; clock = p.start h x.slots; slots = x.slots; inside = true }

unfoldable pub work_on : Small → ℕ → World → Hart → World
work_on p h w x = record w { harts = put w.harts h (worked p h x); marks = p.mark h w.marks }

unfoldable pub turn_on : Small → ℕ → World → Hart → World
turn_on p h w x = record {
  harts = put w.harts h (turned p h x w.shared);
  shared = p.leaves h x.slots x.state w.shared;
  marks = p.mark h w.marks;
  used = w.used ++ (h, p.takes h x.slots x.state w.shared) ∷ [];
}

unfoldable pub next : Small → ℕ → World → World
next p h w = let x = hart_of h w in if x.inside then work_on p h w x else turn_on p h w x

-- ---- what is asked: an event takes time, slots last, and pads are at least as long as an event

pub record IsSmall (p : Small) : Type 0 where
  pub some : (h k x : ℕ) → 0 < p.cycles h k x
  pub few : (h k x : ℕ) → p.cycles h k x ≤ p.most
  pub long : (h k : ℕ) → p.start h k < p.end h k
  pub padded : (h k : ℕ) → p.end h k + p.most ≤ p.start h (suc k)

-- ---- the machine

pub record SameShared (w v : World) : Type 0 where
  pub shared : w.shared ≡ v.shared
  pub used : w.used ≡ v.used

-- a hart in a slot has not reached its end, and any other not the start of its next
abbrev pub InTime : Small → ℕ → Hart → Bool → Type 0
InTime p h x true = x.clock < p.end h x.slots
InTime p h x false = x.clock < p.start h x.slots

pub record AllInTime (p : Small) (w : World) : Type 0 where
  pub each : (h : ℕ) → h < p.count → InTime p h (hart_of h w) (hart_of h w).inside

abbrev pub machine : Small → Machine
machine p = record {
  World = World;
  harts = p.count;
  next = next p;
  clock = λ h w. (hart_of h w).clock;
  slots = λ h w. (hart_of h w).slots;
  inside = λ h w. (hart_of h w).inside;
  start = p.start;
  end = p.end;
  IsSound = AllInTime p;
  Same = λ h w v. hart_of h w ≡ hart_of h v;
  SameShared = SameShared;
}

-- before any event
abbrev pub opening : World
opening = record { harts = empty; shared = 0; marks = 0; used = [] }
