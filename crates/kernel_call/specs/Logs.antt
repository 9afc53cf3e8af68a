-- What is kept of a list that may be long.
use Rattle.std.specs.Prelude.{◌≡◌, ℕ, ◌-◌, ◌<◌, min, IsSome, List, length, take, slice_get, Option}

-- how many, the last, and the first 256
pub record Log (A : Type 0) : Type 0 where
  pub count : ℕ
  pub last : Option A
  pub first : List A

unfoldable pub log_of : {A : Type 0} → List A → Log A
log_of xs = record { count = length xs; last = slice_get xs (length xs - 1); first = take 256 xs }

-- it keeps all of a short list, and the last of every list that isn't empty
pub record IsKept {A : Type 0} (l : Log A) : Type 0 where
  pub first : length l.first ≡ min 256 l.count
  pub last : 0 < l.count → IsSome l.last
