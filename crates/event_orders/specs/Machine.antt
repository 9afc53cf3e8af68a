-- Harts over one state: what is asked of a machine, whatever its states are.
use Rattle.std.specs.Prelude.{◌≡◌, ◌≢◌, ℕ, suc, ◌<◌, Bool, true, false}

pub record Machine : Type 1 where
  pub World : Type 0
  pub harts : ℕ  -- how many
  pub next : ℕ → World → World  -- a hart's next event: a switch, or one event of its slot
  pub clock : ℕ → World → ℕ
  pub slots : ℕ → World → ℕ  -- how many of a hart's slots have ended
  pub inside : ℕ → World → Bool  -- whether it is in the next one
  pub start : ℕ → ℕ → ℕ  -- when a slot of a hart starts
  pub end : ℕ → ℕ → ℕ  -- when it ends
  pub IsSound : World → Type 0  -- what holds at every moment
  pub Same : ℕ → World → World → Type 0  -- equal in all that a hart and its domains have
  pub SameShared : World → World → Type 0  -- equal in what switches alone read and write

-- what an equality is
pub record IsEquality (W : Type 0) (Same : W → W → Type 0) : Type 0 where
  pub itself : (w : W) → Same w w
  pub back : (w v : W) → Same w v → Same v w
  pub on : (w v u : W) → Same w v → Same v u → Same w u

-- a hart is as far in both
pub record AsFar (m : Machine) (h : ℕ) (w v : m.World) : Type 0 where
  pub clock : m.clock h w ≡ m.clock h v
  pub slots : m.slots h w ≡ m.slots h v
  pub inside : m.inside h w ≡ m.inside h v

pub record IsMachine (m : Machine) : Type 0 where
  pub same : (h : ℕ) → IsEquality m.World (m.Same h)
  pub shared : IsEquality m.World m.SameShared
  pub as_far : (h : ℕ) (w v : m.World) → m.Same h w v → AsFar m h w v
  -- any event keeps what holds, and leaves what other harts have
  pub sound : (h : ℕ) (w : m.World) → h < m.harts → m.IsSound w → m.IsSound (m.next h w)
  pub others : (g h : ℕ) (w : m.World) → h < m.harts → g ≢ h → m.IsSound w → m.Same g (m.next h w) w
  -- one of a slot goes by what its own hart has, and leaves what switches share
  pub work : (h : ℕ) (w v : m.World) → h < m.harts → m.IsSound w → m.IsSound v → m.inside h w ≡ true
      → m.Same h w v → m.Same h (m.next h w) (m.next h v)
  pub work_shared : (h : ℕ) (w : m.World) → h < m.harts → m.IsSound w → m.inside h w ≡ true
      → m.SameShared (m.next h w) w
  -- a switch goes by that, and by what switches share
  pub turn : (h : ℕ) (w v : m.World) → h < m.harts → m.IsSound w → m.IsSound v → m.inside h w ≡ false
      → m.Same h w v → m.SameShared w v → m.Same h (m.next h w) (m.next h v)
  pub turn_shared : (h : ℕ) (w v : m.World) → h < m.harts → m.IsSound w → m.IsSound v → m.inside h w ≡ false
      → m.Same h w v → m.SameShared w v → m.SameShared (m.next h w) (m.next h v)
  -- it takes a cycle or more; a slot's events begin before its end
  pub rises : (h : ℕ) (w : m.World) → h < m.harts → m.IsSound w → m.clock h w < m.clock h (m.next h w)
  pub early : (h : ℕ) (w : m.World) → h < m.harts → m.IsSound w → m.inside h w ≡ true
      → m.clock h w < m.end h (m.slots h w)
  -- a hart that has had fewer slots is before this one's start
  pub before : (h n : ℕ) (w : m.World) → h < m.harts → m.IsSound w → m.slots h w < n → m.clock h w < m.start h n
  -- a switch begins a slot; an event of a slot stays in it, or ends it
  pub begins : (h : ℕ) (w : m.World) → h < m.harts → m.IsSound w → m.inside h w ≡ false
      → m.inside h (m.next h w) ≡ true
  pub begins_slot : (h : ℕ) (w : m.World) → h < m.harts → m.IsSound w → m.inside h w ≡ false
      → m.slots h (m.next h w) ≡ m.slots h w
  pub goes_on : (h : ℕ) (w : m.World) → m.inside h w ≡ true → m.inside h (m.next h w) ≡ true
      → m.slots h (m.next h w) ≡ m.slots h w
  pub ends : (h : ℕ) (w : m.World) → m.inside h w ≡ true → m.inside h (m.next h w) ≡ false
      → m.slots h (m.next h w) ≡ suc (m.slots h w)
