-- What the tests of slots say, in words of their own.
use Rattle.std.specs.Prelude.{◌≡◌, ℕ, ◌+◌, List, [], ◌∷◌, length, filter, Option, Some, None, ◌⊎◌}
use Rattle.std.specs.List.{range_with_len}
use Rattle.cap_table.specs.declared.Cap.{Cap}
use Rattle.cap_table.specs.declared.Cap.TheVariants as cap
use Rattle.cap_table.specs.Slots.{Slots, cap_at, page_of, line_of, region_of, is_revoked}

-- both name this page
pub record SamePage (c d : Option Cap) : Type 0 where
  pub frame : ℕ
  pub first : page_of c ≡ Some frame
  pub second : page_of d ≡ Some frame

-- both name this line
pub record SameLine (c d : Option Cap) : Type 0 where
  pub line : ℕ
  pub first : line_of c ≡ Some line
  pub second : line_of d ≡ Some line

abbrev pub IsAlike : Option Cap → Option Cap → Type 0
IsAlike c d = SamePage c d ⊎ SameLine c d

-- a table is there, installed at an address, and some page is mapped in the same 4 MiB
pub record IsInUse (slots : Slots) (slot : ℕ) : Type 0 where
  pub table : ℕ
  pub installed : ℕ
  pub there : cap_at slots slot ≡ Some (cap.Table table (Some installed))
  pub other : ℕ
  pub page : ℕ
  pub rights : ℕ
  pub mapped : ℕ
  pub through : cap_at slots other ≡ Some (cap.Frame page rights (Some mapped))
  pub same : region_of mapped ≡ region_of installed

-- how many slots are filled
abbrev pub one_if_filled : Option Cap → ℕ
one_if_filled None = 0
one_if_filled (Some c) = 1

unfoldable pub filled_count : Slots → ℕ
filled_count [] = 0
filled_count (c ∷ slots) = one_if_filled c + filled_count slots

-- the other slots that name the same, in order
abbrev pub emptied_slots : Slots → ℕ → List ℕ
emptied_slots slots slot = filter (is_revoked slots slot) (range_with_len 0 (length slots))
