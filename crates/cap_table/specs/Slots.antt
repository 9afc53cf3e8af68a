-- The 64 slots of a domain's capabilities, and what each change makes of them.
use Rattle.std.specs.Prelude.{ℕ, ◌+◌, ◌/◌, ◌%◌, Bool, true, false, not, ◌&&◌, nat_eq, if◌then◌else◌, List, [], ◌∷◌, length, map, replicate, slice_index_or, slice_set, Option, Some, None}
use Rattle.std.specs.List.{list_any, range_with_len}
use Rattle.cap_table.specs.declared.Cap.{Cap}
use Rattle.cap_table.specs.declared.Cap.TheVariants as cap

-- by slot
abbrev pub Slots : Type 0
Slots = List (Option Cap)

abbrev pub cap_at : Slots → ℕ → Option Cap
cap_at slots i = slice_index_or slots i None

abbrev pub is_filled : Option Cap → Bool
is_filled None = false
is_filled (Some c) = true

unfoldable pub empty_slots : Slots
empty_slots = replicate 64 None

-- ---- what a capability names

-- the frame of a page
abbrev pub page_of : Option Cap → Option ℕ
page_of (Some (cap.Frame frame rights mapped)) = Some frame
page_of _ = None

-- the frame of a table
abbrev pub table_of : Option Cap → Option ℕ
table_of (Some (cap.Table frame installed)) = Some frame
table_of _ = None

abbrev pub line_of : Option Cap → Option ℕ
line_of (Some (cap.Irq line)) = Some line
line_of _ = None

-- the address at which a page is mapped through it
abbrev pub mapped_at : Option Cap → Option ℕ
mapped_at (Some (cap.Frame frame rights mapped)) = mapped
mapped_at _ = None

-- the address at which a table is installed
abbrev pub installed_at : Option Cap → Option ℕ
installed_at (Some (cap.Table frame installed)) = installed
installed_at _ = None

abbrev pub same_number : Option ℕ → Option ℕ → Bool
same_number (Some m) (Some n) = nat_eq m n
same_number _ _ = false

-- both name the same page, or the same line (no other capability names a table's frame)
abbrev pub alike : Option Cap → Option Cap → Bool
alike (Some (cap.Irq line)) c = same_number (Some line) (line_of c)
alike (Some (cap.Frame frame rights mapped)) c = same_number (Some frame) (page_of c)
alike _ c = false

-- ---- changes

abbrev pub with_cap : Slots → ℕ → Option Cap → Slots
with_cap slots slot c = slice_set slots slot c

-- the same page with these rights, not mapped, or the same line
abbrev pub copied : Option Cap → ℕ → Option Cap
copied (Some (cap.Frame frame rights mapped)) narrower = Some (cap.Frame frame narrower None)
copied c rights = c

-- with another note of the address at which it is mapped or installed
abbrev pub noted : Option Cap → Option ℕ → Option Cap
noted (Some (cap.Frame frame rights mapped)) at = Some (cap.Frame frame rights at)
noted (Some (cap.Table frame installed)) at = Some (cap.Table frame at)
noted c at = c

-- ---- a table in use

-- the 4 MiB of addresses in which an address lies
abbrev pub region_of : ℕ → ℕ
region_of va = va / 4194304 % 1024

abbrev pub is_in_region : ℕ → Option ℕ → Bool
is_in_region region None = false
is_in_region region (Some va) = nat_eq (region_of va) region

-- whether some page is mapped in a region
unfoldable pub maps_in : Slots → ℕ → Bool
maps_in slots region = list_any (λ c. is_in_region region (mapped_at c)) slots

-- an installed table through which some page is mapped
abbrev pub in_use_at : Slots → Option ℕ → Bool
in_use_at slots None = false
in_use_at slots (Some va) = maps_in slots (region_of va)

unfoldable pub in_use : Slots → ℕ → Bool
in_use slots slot = in_use_at slots (installed_at (cap_at slots slot))

-- ---- revoking: every other slot that names the same is emptied

abbrev pub is_revoked : Slots → ℕ → ℕ → Bool
is_revoked slots slot i = not (nat_eq i slot) && alike (cap_at slots slot) (cap_at slots i)

abbrev pub slot_after : Slots → ℕ → ℕ → Option Cap
slot_after slots slot i = if is_revoked slots slot i then None else cap_at slots i

unfoldable pub revoked : Slots → ℕ → Slots
revoked slots slot = map (slot_after slots slot) (range_with_len 0 (length slots))

-- how many
unfoldable pub count_in : Slots → ℕ → List ℕ → ℕ
count_in slots slot [] = 0
count_in slots slot (i ∷ is) = (if is_revoked slots slot i then 1 else 0) + count_in slots slot is

abbrev pub revoked_count : Slots → ℕ → ℕ
revoked_count slots slot = count_in slots slot (range_with_len 0 (length slots))

-- where they were mapped, in slot order
abbrev pub push_some : Option ℕ → List ℕ → List ℕ
push_some None ns = ns
push_some (Some n) ns = n ∷ ns

unfoldable pub entries_in : Slots → ℕ → List ℕ → List ℕ
entries_in slots slot [] = []
entries_in slots slot (i ∷ is) =
    push_some (if is_revoked slots slot i then mapped_at (cap_at slots i) else None)
    (entries_in slots slot is)

abbrev pub revoked_entries : Slots → ℕ → List ℕ
revoked_entries slots slot = entries_in slots slot (range_with_len 0 (length slots))
