-- The translation of an address. The definition walks each time, and the buffer decides the cost alone; the leaf words
-- that the code's buffer keeps are the walks' own.
use Rattle.std.specs.Prelude.{◌≡◌, ℕ, ◌+◌, ◌*◌, ◌/◌, ◌%◌, Bool, true, false, List, map, Some, Result, Ok, Err}
use Rattle.phys_mem.specs.Mem.{Mem}
use Rattle.sv32_walk.specs.declared.access.WalkFault.{WalkFault}
use Rattle.sv32_walk.specs.PageTableEntry.{ppn}
use Rattle.sv32_walk.specs.Walk.{Walk}
use Rattle.sv32_walk.specs.KeptLeaf.{IsLeafOf}
use Rattle.tlb_model.specs.Buffer.{Buffer, leaf_of}
use Rattle.mem_system.specs.Cost.{Touch, Look}

abbrev pub is_found : Result ℕ WalkFault → Bool
is_found (Ok leaf) = true
is_found (Err fault) = false

-- the lines of addresses
unfoldable pub lines_of : ℕ → List ℕ → List ℕ
lines_of line_size addresses = map (λ at. at / line_size) addresses

-- the look-up of an address whose walk is known
unfoldable pub look_of : ℕ → ℕ → Walk → Touch
look_of line_size va walk = Look (va / 4096) (lines_of line_size walk.reads) (is_found walk.result)

-- the physical address of a virtual one in the page of a leaf
abbrev pub address_in : ℕ → ℕ → ℕ
address_in leaf va = ppn leaf * 4096 + va % 4096

abbrev pub translated : ℕ → Result ℕ WalkFault → Result ℕ WalkFault
translated va (Ok leaf) = Ok (address_in leaf va)
translated va (Err fault) = Err fault

-- the leaf that is kept for a page is the one that its walk finds in this memory from this root
pub record KeepsLeaves {P : Type 0} (mem : Mem) (frames root : ℕ) (buffer : Buffer P) : Type 0 where
  pub each : (page leaf : ℕ) → leaf_of buffer page ≡ Some leaf → IsLeafOf mem frames root page leaf
