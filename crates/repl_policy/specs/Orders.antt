-- Least recently used, and first in first out, on lists of ways, newest first.
use Rattle.std.specs.Prelude.{ℕ, zero, suc, Bool, not, List, [], ◌∷◌, Option, None, Some, unwrap_or, filter, if◌then◌else◌, ◌==◌}
use Rattle.std.specs.List.{list_any}
use Rattle.std.specs.Option.{option_or}
use Rattle.set_cache.specs.Rule.{Rule}

-- whether a way is listed
abbrev pub has : List ℕ → ℕ → Bool
has list way = list_any (λ listed. listed == way) list

abbrev pub without : List ℕ → ℕ → List ℕ
without list way = filter (λ listed. not (listed == way)) list

-- the way in front of the others
abbrev pub to_front : List ℕ → ℕ → List ℕ
to_front list way = way ∷ without list way

-- the least of the first ways that is not listed
abbrev pub least_unlisted : ℕ → List ℕ → Option ℕ
least_unlisted zero list = None
least_unlisted (suc way) list = option_or (least_unlisted way list) (if has list way then None else Some way)

-- the last way of a list, where it has one
abbrev pub last_way : ℕ → List ℕ → ℕ
last_way way [] = way
last_way way (next ∷ list) = last_way next list

-- the least unlisted way, and where all are listed the last
abbrev pub oldest : ℕ → List ℕ → ℕ
oldest ways list = unwrap_or (least_unlisted ways list) (last_way 0 list)

-- least recently used: a hit or a fill moves the way to the front
abbrev pub lru_rule : ℕ → Rule
lru_rule ways = record { touched = to_front; filled = to_front; victim = oldest ways }

-- first in, first out: only a fill does
abbrev pub fifo_rule : ℕ → Rule
fifo_rule ways = record { touched = λ list way. list; filled = to_front; victim = oldest ways }
