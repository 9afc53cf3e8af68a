-- The costs of the machine's events, their range, and the range of what they sum to.
use Rattle.std.specs.Prelude.{ℕ, ◌+◌, ◌*◌, ◌^◌, ◌<◌, ◌≤◌, max, List, length, All, sum, Option, Some, None}
use Rattle.tp_base.specs.Ranges.{IsCycles}

-- a cost is 1 to 1,000 cycles
pub record IsCost (cycles : ℕ) : Type 0 where
  pub some : 0 < cycles
  pub few : cycles ≤ 1000

-- in cycles
pub record CostTable : Type 0 where
  pub base : ℕ  -- each instruction
  pub l1 : ℕ  -- a fetch, load or store, at the first level
  pub l2 : ℕ  -- what misses the first level, and a walk's read, at the second level
  pub mem : ℕ  -- what misses the second level
  pub wb : ℕ  -- a dirty line that is written back
  pub tlb : ℕ  -- a look-up in the translation buffer
  pub mispredict : ℕ  -- a branch that was guessed wrongly
  pub trap : ℕ  -- an operation of the kernel, beside the lines that it touches
  pub flush : ℕ  -- a flush, beside the dirty lines that it writes back

pub record AreCosts (c : CostTable) : Type 0 where
  pub base : IsCost c.base
  pub l1 : IsCost c.l1
  pub l2 : IsCost c.l2
  pub mem : IsCost c.mem
  pub wb : IsCost c.wb
  pub tlb : IsCost c.tlb
  pub mispredict : IsCost c.mispredict
  pub trap : IsCost c.trap
  pub flush : IsCost c.flush

-- what products and divisions cost beside their instruction, in cycles
pub record ProductCosts : Type 0 where
  pub mul : ℕ  -- a product
  pub div : ℕ  -- a step of a division: there is one, and one for each binary digit of the dividend

abbrev pub division_cost : ProductCosts → ℕ → ℕ
division_cost c digits = c.div * (1 + digits)

-- the most that an instruction costs more by them: a dividend has at most 32 digits
abbrev pub most_cost : ProductCosts → ℕ
most_cost c = max c.mul (division_cost c 32)

-- of a machine that may have none
abbrev pub most_added : Option ProductCosts → ℕ
most_added None = 0
most_added (Some c) = most_cost c

-- from a clock below 2 ^ 62, up to 2 ^ 30 charges of any 32-bit number end within 63 bits
abbrev pub ChargesFit : ℕ → Type 0
ChargesFit clock = (charges : List ℕ) → All (λ charge. charge < 2 ^ 32) charges → length charges ≤ 2 ^ 30
    → IsCycles (clock + sum charges)
