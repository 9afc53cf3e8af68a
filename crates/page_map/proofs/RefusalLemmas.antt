-- Which refusal each case has.
use Rattle.std.proofs.Common.{◌≡◌, ◌≢◌, ℕ, ◌%◌, true, false, eq-eqb, ne_eqb}
use Rattle.std.specs.Prelude.{Some, None}
use Rattle.phys_mem.specs.Mem.{Mem}
use Rattle.sv32_walk.specs.PageTableEntry.{valid}
use Rattle.sv32_walk.specs.Translation.{first_entry, second_entry}
use Rattle.page_map.specs.declared.refusal.MapRefusal.TheVariants as refusal
use Rattle.page_map.specs.Tables.{map_refusal, install_refusal}

module _ (mem : Mem) (root va : ℕ) where
  pub map_unaligned : va % 4096 ≢ 0 → map_refusal mem root va ≡ Some refusal.BadAddress
  unfolding map_refusal
  map_unaligned apart = rw (ne_eqb (va % 4096) 0 apart)

  pub map_taken : va % 4096 ≡ 0 → valid (first_entry mem root va) ≡ true
      → valid (second_entry mem root va) ≡ true
      → map_refusal mem root va ≡ Some refusal.Mapped
  unfolding map_refusal
  map_taken aligned table page = rw (eq-eqb (va % 4096) 0 aligned, table, page)

  pub map_no_table : va % 4096 ≡ 0 → valid (first_entry mem root va) ≡ false
      → map_refusal mem root va ≡ Some refusal.NoTable
  unfolding map_refusal
  map_no_table aligned table = rw (eq-eqb (va % 4096) 0 aligned, table)

  pub map_free : va % 4096 ≡ 0 → valid (first_entry mem root va) ≡ true
      → valid (second_entry mem root va) ≡ false
      → map_refusal mem root va ≡ None
  unfolding map_refusal
  map_free aligned table page = rw (eq-eqb (va % 4096) 0 aligned, table, page)

  pub install_unaligned : va % 4194304 ≢ 0 → install_refusal mem root va ≡ Some refusal.BadAddress
  unfolding install_refusal
  install_unaligned apart = rw (ne_eqb (va % 4194304) 0 apart)

  pub install_taken : va % 4194304 ≡ 0 → valid (first_entry mem root va) ≡ true
      → install_refusal mem root va ≡ Some refusal.Mapped
  unfolding install_refusal
  install_taken aligned table = rw (eq-eqb (va % 4194304) 0 aligned, table)

  pub install_free : va % 4194304 ≡ 0 → valid (first_entry mem root va) ≡ false
      → install_refusal mem root va ≡ None
  unfolding install_refusal
  install_free aligned table = rw (eq-eqb (va % 4194304) 0 aligned, table)
