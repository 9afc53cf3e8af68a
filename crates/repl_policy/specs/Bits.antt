-- The tree policy in one number: a bit for each range that is halved, at the number of its middle.
use Rattle.std.specs.Prelude.{◌≡◌, ℕ, zero, suc, ◌+◌, ◌^◌, List}
use Rattle.std.specs.Int.{bit_at}
use Rattle.repl_policy.specs.Halves.{other_half}

-- the bit at the middle of each range says the half to which the victim goes
abbrev pub Points : ℕ → ℕ → ℕ → List ℕ → Type 0
Points zero low state list = Unit {0}
Points (suc depth) low state list =
    (bit_at state (low + 2 ^ depth) ≡ other_half depth low list) × Points depth low state list
    × Points depth (low + 2 ^ depth) state list
