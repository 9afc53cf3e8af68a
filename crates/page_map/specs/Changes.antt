-- What each call makes of memory: one word is written.
use Rattle.std.specs.Prelude.{◌≡◌, ℕ, ◌<◌, true, None}
use Rattle.tp_base.specs.Rights.{are_good}
use Rattle.phys_mem.specs.Mem.{Mem, written}
use Rattle.sv32_walk.specs.PageTableEntry.{vpn_0, vpn_1, table_word, leaf_word}
use Rattle.sv32_walk.specs.Walk.{entry_address}
use Rattle.page_map.specs.Tables.{IsPageMap, IsBlank, has_table, has_page, table_of, map_refusal, install_refusal}
use Rattle.page_map.specs.Reached.{IsApart}

-- the physical address of the entry for an address in the root, and in its table
abbrev pub table_entry : ℕ → ℕ → ℕ
table_entry root va = entry_address root (vpn_1 va)

abbrev pub page_entry : Mem → ℕ → ℕ → ℕ
page_entry mem root va = entry_address (table_of mem root va) (vpn_0 va)

-- a page's leaf is written, or cleared
abbrev pub mapped : Mem → ℕ → ℕ → ℕ → ℕ → Mem
mapped mem root va frame rights = written mem (table_of mem root va) (vpn_0 va) (leaf_word frame rights)

abbrev pub unmapped : Mem → ℕ → ℕ → Mem
unmapped mem root va = written mem (table_of mem root va) (vpn_0 va) 0

-- a pointer to a table is written, or cleared
abbrev pub installed : Mem → ℕ → ℕ → ℕ → Mem
installed mem root va frame = written mem root (vpn_1 va) (table_word frame)

abbrev pub uninstalled : Mem → ℕ → ℕ → Mem
uninstalled mem root va = written mem root (vpn_1 va) 0

-- ---- when each call changes something: its conditions hold, and it is not refused

pub record CanMap (mem : Mem) (root frames va frame rights : ℕ) : Type 0 where
  pub tables : IsPageMap mem root frames
  pub allowed : map_refusal mem root va ≡ None
  pub in_memory : frame < frames
  pub apart : IsApart mem root frame
  pub rights_are_good : are_good rights ≡ true

pub record CanUnmap (mem : Mem) (root frames va : ℕ) : Type 0 where
  pub tables : IsPageMap mem root frames
  pub page : has_page mem root va ≡ true

pub record CanInstall (mem : Mem) (root frames va frame : ℕ) : Type 0 where
  pub tables : IsPageMap mem root frames
  pub allowed : install_refusal mem root va ≡ None
  pub in_memory : frame < frames
  pub apart : IsApart mem root frame
  pub blank : IsBlank mem frame

pub record CanUninstall (mem : Mem) (root frames va : ℕ) : Type 0 where
  pub tables : IsPageMap mem root frames
  pub table : has_table mem root va ≡ true
