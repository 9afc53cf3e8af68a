-- The errors of the calls: of each call those that it may have, in the order of their codes, and when each is so.
use Rattle.std.specs.Prelude.{◌≡◌, ℕ, ◌%◌, nat_eq, nat_lt, nat_le, Bool, true, not, ◌&&◌, ◌||◌, if◌then◌else◌, List, [], ◌∷◌, length, map, Option, Some, None, is_some, is_none}
use Rattle.std.specs.List.Sorted.{IsStrictlyIncreasing}
use Rattle.std.proofs.Common.{inl, inr}
use Rattle.phys_mem.specs.Mem.{Mem}
use Rattle.thread_set.specs.Threads.{vacant}
use Rattle.page_map.specs.Tables.{has_table, has_page}
use Rattle.cap_table.specs.declared.Cap.{Cap}
use Rattle.cap_table.specs.declared.Cap.TheVariants as cap
use Rattle.cap_table.specs.Slots.{cap_at, page_of, table_of, line_of, mapped_at, installed_at, in_use}
use Rattle.call_table.specs.Domain.{Dom, refused}
use Rattle.call_table.specs.Claims.{Estate, free_frames}
use Rattle.call_table.specs.Calls.{may_give, call, number_made}
use Rattle.call_table.specs.Meanings.{argument_a, argument_b, argument_c}

-- an error's code, and whether it is so
pub record Error : Type 0 where
  pub code : ℕ
  pub is_so : Bool

abbrev pub bad_call : Bool → Error
bad_call so = record { code = 1; is_so = so }

abbrev pub bad_slot : Bool → Error
bad_slot so = record { code = 2; is_so = so }

abbrev pub empty : Bool → Error
empty so = record { code = 3; is_so = so }

abbrev pub used : Bool → Error
used so = record { code = 4; is_so = so }

abbrev pub wrong_kind : Bool → Error
wrong_kind so = record { code = 5; is_so = so }

abbrev pub bad_rights : Bool → Error
bad_rights so = record { code = 6; is_so = so }

abbrev pub bad_address : Bool → Error
bad_address so = record { code = 7; is_so = so }

abbrev pub mapped : Bool → Error
mapped so = record { code = 8; is_so = so }

abbrev pub no_table : Bool → Error
no_table so = record { code = 9; is_so = so }

abbrev pub no_frame : Bool → Error
no_frame so = record { code = 10; is_so = so }

abbrev pub output_full : Bool → Error
output_full so = record { code = 11; is_so = so }

abbrev pub table_in_use : Bool → Error
table_in_use so = record { code = 12; is_so = so }

abbrev pub no_thread : Bool → Error
no_thread so = record { code = 13; is_so = so }

-- ---- what a slot holds

abbrev pub is_slot : ℕ → Bool
is_slot a = nat_lt a 64

abbrev pub in_slot : Dom → ℕ → Option Cap
in_slot d a = cap_at d.caps a

-- the rights of a page's capability
abbrev pub rights_of : Option Cap → ℕ
rights_of (Some (cap.Frame frame rights at)) = rights
rights_of _ = 0

abbrev pub is_multiple : ℕ → ℕ → Bool
is_multiple size b = nat_eq (b % size) 0

-- the last argument's rights are not good, or beyond those of the slot's page
abbrev pub is_beyond : Option Cap → ℕ → Bool
is_beyond c rights = not (may_give (rights_of c) rights)

-- ---- the errors of each call

-- of a call on the capability in a slot: those of the slot first
abbrev pub on_slot : Dom → ℕ → List Error → List Error
on_slot d a more = bad_slot (not (is_slot a)) ∷ empty (is_none (in_slot d a)) ∷ more

-- of a call on a line
abbrev pub on_line : Dom → ℕ → List Error
on_line d a = on_slot d a (wrong_kind (is_none (line_of (in_slot d a))) ∷ [])

abbrev pub alloc_errors : Estate → Dom → ℕ → ℕ → List Error
alloc_errors e d a b =
    bad_slot (not (is_slot a)) ∷ used (is_some (in_slot d a)) ∷ wrong_kind (not (nat_le b 1))
    ∷ no_frame (nat_eq (length (free_frames e d.caps)) 0) ∷ []

abbrev pub table_errors : Estate → Dom → Mem → ℕ → ℕ → List Error
table_errors e d m a b =
    on_slot d a (wrong_kind (is_none (table_of (in_slot d a))) ∷ bad_address (not (is_multiple 4194304 b))
    ∷ mapped (is_some (installed_at (in_slot d a)) || has_table m e.root b) ∷ [])

abbrev pub map_errors : Estate → Dom → Mem → ℕ → ℕ → ℕ → List Error
map_errors e d m a b c =
    on_slot d a (wrong_kind (is_none (page_of (in_slot d a))) ∷ bad_rights (is_beyond (in_slot d a) c)
    ∷ bad_address (not (is_multiple 4096 b))
    ∷ mapped (is_some (mapped_at (in_slot d a)) || has_page m e.root b)
    ∷ no_table (not (has_table m e.root b)) ∷ [])

abbrev pub unmap_errors : Dom → ℕ → List Error
unmap_errors d a =
    on_slot d a
    (wrong_kind (is_none (page_of (in_slot d a))) ∷ bad_address (is_none (mapped_at (in_slot d a))) ∷ [])

abbrev pub copy_errors : Dom → ℕ → ℕ → ℕ → List Error
copy_errors d a b c =
    bad_slot (not (is_slot a) || not (is_slot b)) ∷ empty (is_none (in_slot d a))
    ∷ used (is_some (in_slot d b))
    ∷ wrong_kind (is_some (table_of (in_slot d a)))
    ∷ bad_rights (is_some (page_of (in_slot d a)) && is_beyond (in_slot d a) c) ∷ []

abbrev pub spawn_errors : Dom → ℕ → List Error
spawn_errors d a = bad_address (not (is_multiple 4 a)) ∷ no_thread (is_none (vacant d.threads)) ∷ []

-- by the call's number
unfoldable pub errors_of : Estate → Dom → Mem → ℕ → ℕ → ℕ → ℕ → List Error
errors_of e d m number a b c =
    if nat_eq number 0 then []
    else if nat_eq number 1 then output_full (not (nat_lt (length d.printed) 4096)) ∷ []
    else if nat_eq number 2 then alloc_errors e d a b
    else if nat_eq number 3 then table_errors e d m a b
    else if nat_eq number 4 then map_errors e d m a b c
    else if nat_eq number 5 then unmap_errors d a
    else if nat_eq number 6 then copy_errors d a b c
    else if nat_eq number 7 then on_slot d a (table_in_use (in_use d.caps a) ∷ [])
    else if nat_eq number 8 then on_slot d a []
    else if nat_eq number 9 then on_line d a
    else if nat_eq number 10 then on_line d a
    else if nat_eq number 11 then on_line d a
    else if nat_eq number 12 then spawn_errors d a
    else if nat_eq number 13 then []
    else if nat_eq number 14 then []
    else bad_call true ∷ []

-- of the call that the current thread makes
abbrev pub errors : Estate → Dom → Mem → List Error
errors e d m = errors_of e d m (number_made e d) (argument_a d) (argument_b d) (argument_c d)

-- the first that is so
unfoldable pub first_so : List Error → Option ℕ
first_so [] = None
first_so (x ∷ xs) = if x.is_so then Some x.code else first_so xs

-- ---- errors are tested in the order of their codes

-- the codes ascend
abbrev pub AscendLaw : Type 0
AscendLaw = (e : Estate) (d : Dom) (m : Mem) → IsStrictlyIncreasing (map (λ x. x.code) (errors e d m))

-- a call is refused by the first of its errors
abbrev pub FirstErrorLaw : Type 0
FirstErrorLaw = (e : Estate) (d : Dom) (m : Mem) (code : ℕ) → first_so (errors e d m) ≡ Some code
    → (call e d m).value ≡ inl (refused code d)

-- and done where it has none
abbrev pub NoErrorLaw : Type 0
NoErrorLaw = (e : Estate) (d : Dom) (m : Mem) → first_so (errors e d m) ≡ None
    → (x : Dom) × ((call e d m).value ≡ inr x)
