-- The registers x0 to x31 as a list of words.
use Rattle.std.specs.Prelude.{◌≡◌, ℕ, List, length, replicate, slice_index, slice_set, if◌then◌else◌, ◌==◌}

-- there are 32, and x0 is 0
pub record IsRegisters (regs : List ℕ) : Type 0 where
  pub count : length regs ≡ 32
  pub zero : slice_index regs 0 ≡ 0

abbrev pub zeros : List ℕ
zeros = replicate 32 0

-- the word in x0 to x31
abbrev pub register : List ℕ → ℕ → ℕ
register regs x = slice_index regs x

-- a write of a register; x0 stays
abbrev pub with_register : List ℕ → ℕ → ℕ → List ℕ
with_register regs x word = if x == 0 then regs else slice_set regs x word
