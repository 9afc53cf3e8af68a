-- The tree policy on lists of ways, newest first: the list is that of least recently used.
use Rattle.std.specs.Prelude.{◌≡◌, ℕ, zero, suc, ◌+◌, ◌*◌, ◌^◌, ◌<◌, ◌≤◌, ◌&&◌, nat_lt, nat_le, List, Option, None, Some, find, if◌then◌else◌, ◌==◌}
use Rattle.set_cache.specs.Rule.{Rule}
use Rattle.repl_policy.specs.Orders.{to_front}

-- the newest listed way of a range
abbrev pub newest_in : ℕ → ℕ → List ℕ → Option ℕ
newest_in low size list = find (λ way. nat_le low way && nat_lt way (low + size)) list

-- 1, for the upper half, where a way lies below the middle, else 0, for the lower
abbrev pub half_away : ℕ → Option ℕ → ℕ
half_away middle None = 0
half_away middle (Some way) = if nat_lt way middle then 1 else 0

-- the half of a range of 2 ^ (depth + 1) ways that does not hold its newest listed way
abbrev pub other_half : ℕ → ℕ → List ℕ → ℕ
other_half depth low list = half_away (low + 2 ^ depth) (newest_in low (2 ^ suc depth) list)

-- from a range of 2 ^ depth ways into that half, at each halving
abbrev pub victim_in : ℕ → ℕ → List ℕ → ℕ
victim_in zero low list = low
victim_in (suc depth) low list = victim_in depth (low + other_half depth low list * 2 ^ depth) list

-- how often this many ways are halved
abbrev pub depth_of : ℕ → ℕ
depth_of ways =
    if ways == 16 then 4
    else (if ways == 8 then 3 else (if ways == 4 then 2 else (if ways == 2 then 1 else 0)))

abbrev pub plru_rule : ℕ → Rule
plru_rule ways = record { touched = to_front; filled = to_front; victim = victim_in (depth_of ways) 0 }

-- any number of ways from 1 to 16
abbrev pub UpToSixteen : ℕ → Type 0
UpToSixteen ways = (0 < ways) × (ways ≤ 16)

-- 1, 2, 4, 8 or 16 ways
abbrev pub IsPowerUpToSixteen : ℕ → Type 0
IsPowerUpToSixteen ways = (0 < ways) × (ways ≤ 16) × (ways ≡ 2 ^ depth_of ways)
