-- The line that was touched last, of which a second touch changes nothing.
use Rattle.std.specs.Prelude.{◌≡◌, ℕ, ◌<◌, ◌+◌, ◌*◌, ◌%◌, ◌^◌, List, [], length, Some}
use Rattle.set_cache.specs.Rule.{Rule}
use Rattle.set_cache.specs.Cache.{way_of}
use Rattle.set_cache.specs.Contents.{KeptSet, Contents, IsSound, kept_at}
use Rattle.set_cache.specs.declared.cache.LastTouch.{LastTouch}

-- the set of a line
abbrev pub set_in : {P : Type 0} → Contents P → ℕ → KeptSet
set_in contents number = kept_at contents.table (number % length contents.table)

-- the line is here, at this place, and one more hit leaves what its set's state stands for
pub record IsLast {P : Type 0} (rule : P → ℕ → Rule) (stands : P → ℕ → ℕ → List ℕ → Type 0)
    (contents : Contents P) (last : LastTouch) : Type 0 where
  pub way : ℕ
  pub found : way_of last.number (set_in contents last.number).places ≡ Some way
  pub place : last.place ≡ (last.number % length contents.table) * contents.ways + way
  pub again : (list : List ℕ) → stands contents.policy contents.ways (set_in contents last.number).state list
      → stands contents.policy contents.ways (set_in contents last.number).state
      ((rule contents.policy contents.ways).touched list way)

-- what is true of a cache, its fresh state and the line that was touched last, if its number is a line's
pub record IsCache {P : Type 0} (takes : P → ℕ → Type 0) (rule : P → ℕ → Rule)
    (stands : P → ℕ → ℕ → List ℕ → Type 0)
    (contents : Contents P) (fresh : ℕ) (last : LastTouch) : Type 0 where
  pub sound : IsSound takes stands contents
  pub few : length contents.table < 2 ^ 32
  pub fresh_stands : stands contents.policy contents.ways fresh []
  pub last_stands : last.number < 2 ^ 32 → IsLast rule stands contents last
