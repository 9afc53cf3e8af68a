-- What is reached from the root.
use Rattle.std.specs.Prelude.{◌≡◌, ◌≢◌, ℕ, ◌<◌, Bool, true}
use Rattle.phys_mem.specs.Mem.{Mem, word}
use Rattle.sv32_walk.specs.PageTableEntry.{valid, ppn}
use Rattle.page_map.specs.Tables.{IsNoTable}

-- the entry at place j of the table that entry i of the root points to
abbrev pub leaf_at : Mem → ℕ → ℕ → ℕ → ℕ
leaf_at mem root i j = word mem (ppn (word mem root i)) j

-- a pool, by which frames are in it
abbrev pub IsIn : (ℕ → Bool) → ℕ → Type 0
IsIn pool frame = pool frame ≡ true

-- each table that the root points to is one of these frames
pub record TablesIn (pool : ℕ → Type 0) (mem : Mem) (root : ℕ) : Type 0 where
  pub each : (i : ℕ) → i < 1024 → valid (word mem root i) ≡ true → pool (ppn (word mem root i))

-- each page that a leaf of such a table names has one of these frames
pub record PagesIn (pool : ℕ → Type 0) (mem : Mem) (root : ℕ) : Type 0 where
  pub each : (i j : ℕ) → i < 1024 → j < 1024
      → valid (word mem root i) ≡ true → valid (leaf_at mem root i j) ≡ true
      → pool (ppn (leaf_at mem root i j))

-- all that is reached from the root lies in a pool of frames
pub record ReachesIn (pool : ℕ → Type 0) (mem : Mem) (root : ℕ) : Type 0 where
  pub tables : TablesIn pool mem root
  pub pages : PagesIn pool mem root

-- a frame in which none of the page tables stands
pub record IsApart (mem : Mem) (root frame : ℕ) : Type 0 where
  pub no_root : frame ≢ root
  pub no_table : IsNoTable mem root frame

-- no page lies on the page tables themselves: what is stored through them leaves them as they are
abbrev pub IsSealed : Mem → ℕ → Type 0
IsSealed mem root = PagesIn (IsApart mem root) mem root

-- the page tables are the same in two memories: the root, and each table that it points to
pub record SameTables (old new : Mem) (root : ℕ) : Type 0 where
  pub in_root : (i : ℕ) → i < 1024 → word new root i ≡ word old root i
  pub in_tables : (i j : ℕ) → i < 1024 → j < 1024 → valid (word old root i) ≡ true
      → leaf_at new root i j ≡ leaf_at old root i j
