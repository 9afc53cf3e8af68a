-- Page tables as they stand in a map of memory: a root, whose valid entries point to tables. An entry for an address is
-- at its first index in the root, and at its second index in the table.
use Rattle.std.specs.Prelude.{◌≡◌, ◌≢◌, ℕ, ◌%◌, ◌<◌, Bool, true, not, ◌&&◌, if◌then◌else◌, nat_eq, Option, Some, None}
use Rattle.phys_mem.specs.Contents.{Contents}
use Rattle.phys_mem.specs.Mem.{Mem, word}
use Rattle.phys_mem.specs.Holds.{Holds}
use Rattle.sv32_walk.specs.PageTableEntry.{valid, ppn, table_word}
use Rattle.sv32_walk.specs.Translation.{first_entry, second_entry}
use Rattle.page_map.specs.declared.refusal.MapRefusal.{MapRefusal}
use Rattle.page_map.specs.declared.refusal.MapRefusal.TheVariants as refusal

-- ---- what stands for an address

-- a table is installed for the address
abbrev pub has_table : Mem → ℕ → ℕ → Bool
has_table mem root va = valid (first_entry mem root va)

-- the address has a valid leaf
abbrev pub has_page : Mem → ℕ → ℕ → Bool
has_page mem root va = has_table mem root va && valid (second_entry mem root va)

-- the frame of the table that is installed for the address
abbrev pub table_of : Mem → ℕ → ℕ → ℕ
table_of mem root va = ppn (first_entry mem root va)

-- ---- the facts of page tables

-- an entry of the root that points to a table in memory, other than the root
pub record IsPointer (entry root frames : ℕ) : Type 0 where
  pub pointer : entry ≡ table_word (ppn entry)
  pub in_memory : ppn entry < frames
  pub apart : ppn entry ≢ root

-- the tables of a root, in a memory of so many frames
pub record IsPageMap (mem : Mem) (root frames : ℕ) : Type 0 where
  pub in_memory : root < frames
  pub tables : (place : ℕ) → place < 1024 → valid (word mem root place) ≡ true
      → IsPointer (word mem root place) root frames

-- no table is installed twice
pub record TablesOnce (mem : Mem) (root : ℕ) : Type 0 where
  pub once : (place other : ℕ) → place < 1024 → other < 1024
      → valid (word mem root place) ≡ true → valid (word mem root other) ≡ true
      → ppn (word mem root place) ≡ ppn (word mem root other) → place ≡ other

-- a frame that no valid entry of the root names
pub record IsNoTable (mem : Mem) (root frame : ℕ) : Type 0 where
  pub unnamed : (place : ℕ) → place < 1024 → valid (word mem root place) ≡ true
      → ppn (word mem root place) ≢ frame

-- a frame that reads zero
pub record IsBlank (mem : Mem) (frame : ℕ) : Type 0 where
  pub zero : (place : ℕ) → place < 1024 → word mem frame place ≡ 0

-- the memory stands for a map of which something is so
pub record StandsWith (memory : Contents) (P : Mem → Type 0) : Type 0 where
  pub mem : Mem
  pub holds : Holds memory mem
  pub so : P mem

-- ---- refusals, by their cases in order

-- of a page at an address
unfoldable pub map_refusal : Mem → ℕ → ℕ → Option MapRefusal
map_refusal mem root va =
    if not (nat_eq (va % 4096) 0) then Some refusal.BadAddress
    else (if has_page mem root va then Some refusal.Mapped
    else (if has_table mem root va then None else Some refusal.NoTable))

-- of a table at an address
unfoldable pub install_refusal : Mem → ℕ → ℕ → Option MapRefusal
install_refusal mem root va =
    if not (nat_eq (va % 4194304) 0) then Some refusal.BadAddress
    else (if has_table mem root va then Some refusal.Mapped else None)
