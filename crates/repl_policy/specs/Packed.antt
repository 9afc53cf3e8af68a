-- A list of ways in one number: four bits a way, the newest lowest, then the unlisted ways, the least last.
use Rattle.std.specs.Prelude.{◌≡◌, ◌≢◌, ℕ, zero, suc, ◌+◌, ◌*◌, ◌/◌, ◌%◌, ◌^◌, ◌<◌, List, [], ◌∷◌, ◌++◌, length, if◌then◌else◌, ◌==◌}
use Rattle.repl_policy.specs.Orders.{has}

-- the first ways without the listed ones, the greatest first
abbrev pub unlisted : ℕ → List ℕ → List ℕ
unlisted zero list = []
unlisted (suc way) list = if has list way then unlisted way list else way ∷ unlisted way list

-- all ways in the order in which they are kept: the listed ones, then the others
abbrev pub all_ways : ℕ → List ℕ → List ℕ
all_ways ways list = list ++ unlisted ways list

-- four bits a way, the first lowest
abbrev pub pack : List ℕ → ℕ
pack [] = 0
pack (way ∷ order) = way + 16 * pack order

-- how often a way stands in a list
abbrev pub times : ℕ → List ℕ → ℕ
times way [] = 0
times way (next ∷ order) = (if next == way then 1 else 0) + times way order

abbrev pub AllBelow : ℕ → List ℕ → Type 0
AllBelow n [] = Unit {0}
AllBelow n (way ∷ order) = (way < n) × AllBelow n order

-- each of this many ways stands there once, and nothing else
pub record IsOrder (ways : ℕ) (order : List ℕ) : Type 0 where
  pub complete : length order ≡ ways
  pub below : AllBelow ways order
  pub once : (way : ℕ) → way < ways → times way order ≡ 1

-- a number stands for a list
pub record Packs (ways state : ℕ) (list : List ℕ) : Type 0 where
  pub packed : state ≡ pack (all_ways ways list)
  pub order : IsOrder ways (all_ways ways list)

-- the way at a place of an order, by its number
abbrev pub way_at : ℕ → ℕ → ℕ
way_at state place = state / 2 ^ (4 * place) % 16

-- the place at which a way stands first
pub record StandsFirst (state way place : ℕ) : Type 0 where
  pub here : way_at state place ≡ way
  pub first : (newer : ℕ) → newer < place → way_at state newer ≢ way
