-- The most cycles that a switch of domains uses, whatever ran before it, part by part.
use Rattle.std.specs.Prelude.{◌≡◌, ℕ, ◌+◌, ◌-◌, ◌*◌, ◌/◌, ◌%◌, ◌≤◌, max, if◌then◌else◌}
use Rattle.cycle_cost.specs.Costs.{CostTable, AreCosts}
use Rattle.cycle_cost.specs.Ranges.{most_again, most_product}
use Rattle.kernel_clone.specs.Footprints.{call_number}
use Rattle.kernel_clone.specs.Permissions.{may_make}
use Rattle.kernel_clone.specs.declared.operation.Call.{Call}
use Rattle.kernel_clone.specs.declared.operation.Call.TheVariants.{Alloc, Table, Map, Unmap, Delete, Revoke}

-- what of a machine the bound depends on
pub record MachineShape : Type 0 where
  pub costs : CostTable
  pub line : ℕ  -- bytes of a line
  pub shared : ℕ  -- bytes of the shared region
  pub sets : ℕ  -- of the first-level data cache
  pub ways : ℕ  -- of it
  pub written : ℕ  -- the most lines that an operation of the domain that leaves writes
  pub again : ℕ  -- the cycles of one more write-back, if a miss of the second level makes one; else 0
  pub product : ℕ  -- the most cycles that a product or a division adds to an instruction

-- ---- one line at worst, where a miss of the second level costs so much again

-- a walk's read of an entry, which the second level misses
abbrev pub worst_read : CostTable → ℕ → ℕ
worst_read c again = c.l2 + c.mem + again

-- a fetch that both levels miss
abbrev pub worst_fetch : CostTable → ℕ → ℕ
worst_fetch c again = c.l1 + worst_read c again

-- a load or store that both levels miss, and whose victim in the first is dirty
abbrev pub worst_access : CostTable → ℕ → ℕ
worst_access c again = worst_fetch c again + c.wb

-- a look-up in the translation buffer that misses, and the walk's two reads
abbrev pub worst_look : CostTable → ℕ → ℕ
worst_look c again = c.tlb + 2 * worst_read c again

-- ---- how many lines

abbrev pub lines_in_frame : ℕ → ℕ
lines_in_frame line = 4096 / line

abbrev pub lines_of_shared : MachineShape → ℕ
lines_of_shared s = s.shared / s.line

-- the most page table entries that one call writes: a REVOKE
abbrev pub most_entries : ℕ
most_entries = 63

-- so many lines, where the domain may make the call
abbrev pub if_may : ℕ → Call → ℕ → ℕ
if_may calls call lines = if may_make calls (call_number call) then lines else 0

-- the most lines that an operation writes, where the domain may make these calls: an ALLOC zeroes a frame, four calls write
-- an entry, and a REVOKE those of all other slots
unfoldable pub most_written : ℕ → ℕ → ℕ
most_written calls line =
    max (if_may calls Alloc (lines_in_frame line))
    (max (if_may calls Table 1) (max (if_may calls Map 1) (max (if_may calls Unmap 1)
    (max (if_may calls Delete 1) (if_may calls Revoke most_entries)))))

-- the same machine, for a domain that may make these calls
abbrev pub with_calls : MachineShape → ℕ → MachineShape
with_calls s calls = record s { written = most_written calls s.line }

-- all of the first-level data cache may be dirty
abbrev pub most_dirty : MachineShape → ℕ
most_dirty s = s.sets * s.ways

-- ---- the parts, in cycles

-- an instruction looks up its page, is fetched, looks up its operand's page and accesses it;
-- that it guesses a branch wrongly and makes a product, too, is more than any instruction does
unfoldable pub worst_instruction : MachineShape → ℕ
worst_instruction s =
    s.costs.base + 2 * worst_look s.costs s.again + worst_fetch s.costs s.again + worst_access s.costs s.again
    + s.costs.mispredict + s.product

-- four lines of text; two of stack, two of data and a shared one; and what a call writes at most
unfoldable pub worst_operation : MachineShape → ℕ
worst_operation s =
    s.costs.trap + 4 * worst_fetch s.costs s.again + 5 * worst_access s.costs s.again
    + s.written * worst_access s.costs s.again

-- four lines of text; two of stack and one of data
unfoldable pub worst_leave : MachineShape → ℕ
worst_leave s = s.costs.trap + 4 * worst_fetch s.costs s.again + 3 * worst_access s.costs s.again

-- the same lines; but it is no trap
unfoldable pub worst_enter : MachineShape → ℕ
worst_enter s = 4 * worst_fetch s.costs s.again + 3 * worst_access s.costs s.again

-- each shared line is loaded; what gives way to one in the second level is never dirty there, since shared lines
-- alone have their colour, and none is stored to
unfoldable pub worst_prefetch : MachineShape → ℕ
worst_prefetch s = lines_of_shared s * worst_access s.costs 0

unfoldable pub worst_flush : MachineShape → ℕ
worst_flush s = s.costs.flush + s.costs.wb * most_dirty s

-- an instruction, and the operation that it calls, begin a cycle before the slot's end at the latest
unfoldable pub bound_of : MachineShape → ℕ
bound_of s =
    worst_instruction s + worst_operation s + worst_leave s + worst_prefetch s + worst_flush s + worst_enter s
    - 1

-- ---- what is a shape

pub record IsShape (s : MachineShape) : Type 0 where
  pub costs : AreCosts s.costs
  pub least_line : 16 ≤ s.line
  pub most_line : s.line ≤ 128
  pub whole_frame : 4096 % s.line ≡ 0
  pub some_shared : s.line ≤ s.shared
  pub most_shared : s.shared ≤ 65536
  pub whole_shared : s.shared % s.line ≡ 0
  pub some_sets : 1 ≤ s.sets
  pub few_sets : s.sets ≤ 1024
  pub some_ways : 1 ≤ s.ways
  pub few_ways : s.ways ≤ 16
  pub few_written : s.written ≤ 256
  pub few_again : s.again ≤ most_again
  pub few_product : s.product ≤ most_product
