-- Not most recently used: the ways with a mark, as a list of ways, newest first, and in one number.
use Rattle.std.specs.Prelude.{◌≡◌, ℕ, zero, suc, ◌^◌, ◌<◌, Bool, true, ◌&&◌, List, [], ◌∷◌, unwrap_or, if◌then◌else◌}
use Rattle.std.specs.Int.{bit_at}
use Rattle.set_cache.specs.Rule.{Rule}
use Rattle.repl_policy.specs.Orders.{has, to_front, least_unlisted}

-- whether every one of the first ways is listed
abbrev pub has_all : ℕ → List ℕ → Bool
has_all zero list = true
has_all (suc way) list = has_all way list && has list way

-- the way in front of the others; where every way would then be listed, that way alone
unfoldable pub mark : ℕ → List ℕ → ℕ → List ℕ
mark ways list way = if has_all ways (to_front list way) then way ∷ [] else to_front list way

-- the least unlisted way; way 0 where every way is listed, as where there is one
unfoldable pub unmarked : ℕ → List ℕ → ℕ
unmarked ways list = unwrap_or (least_unlisted ways list) 0

-- not most recently used: a hit or a fill marks the way
abbrev pub nmru_rule : ℕ → Rule
nmru_rule ways = record { touched = mark ways; filled = mark ways; victim = unmarked ways }

-- a number stands for a list: a bit a way, 1 where the way is listed, and no bit above
pub record Marks (ways state : ℕ) (list : List ℕ) : Type 0 where
  pub small : state < 2 ^ ways
  pub each : (way : ℕ) → way < ways → bit_at state way ≡ (if has list way then 1 else 0)
