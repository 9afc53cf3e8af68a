-- What a pool has: the frames of a share that are free, ascending.
use Rattle.std.specs.Prelude.{◌≡◌, ℕ, Bool, true, nat_lt, if◌then◌else◌, List, [], ◌∷◌, drop}
use Rattle.std.specs.List.Sorted.{IsStrictlyIncreasing}
use Rattle.frame_colours.specs.Colours.{Share, IsOwn, has, pool}

pub record FreeList : Type 0 where
  pub share : Share
  pub free : List ℕ

-- ascending, each frame once, and each of them the share's own
pub record IsFreeList (list : FreeList) : Type 0 where
  pub increasing : IsStrictlyIncreasing list.free
  pub own : (f : ℕ) → has list.free f ≡ true → IsOwn list.share f

abbrev pub is_free : FreeList → ℕ → Bool
is_free list frame = has list.free frame

-- all frames of a share are free
abbrev pub all_free : Share → FreeList
all_free share = record { share = share; free = pool share }

-- the least frame is gone
abbrev pub without_least : FreeList → FreeList
without_least list = record list { free = drop 1 list.free }

-- an ascending list with one more number, in its place
unfoldable pub placed : List ℕ → ℕ → List ℕ
placed [] n = n ∷ []
placed (m ∷ ms) n = if nat_lt n m then n ∷ m ∷ ms else m ∷ placed ms n

-- one more frame is free
abbrev pub with_frame : FreeList → ℕ → FreeList
with_frame list frame = record list { free = placed list.free frame }
