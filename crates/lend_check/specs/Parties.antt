-- The numbers of parties: domains by theirs, and then a child for each lent colour, domains upwards and in the order of
-- their lists.
use Rattle.std.specs.Prelude.{ℕ, ◌+◌, ◌&&◌, nat_eq, nat_lt, ℤ, Bool, if◌then◌else◌, List, length, Option, Some, None, option_map}
use Rattle.image_record.specs.Numbers.{natural_of, is_same}
use Rattle.image_record.specs.Cases.{first_in}
use Rattle.lend_check.specs.Lending.{LendingDomain, LendingEntry, said}

-- how many there are
abbrev pub parties : List LendingDomain → ℕ
parties domains = length domains + length (said domains)

abbrev pub is_child : ℕ × ℤ → ℕ × ℤ → Bool
is_child child other = nat_eq other.0 child.0 && is_same other.1 child.1

abbrev pub if_child : ℕ × ℤ → List (ℕ × ℤ) → ℕ × ℤ → Option ℕ
if_child child earlier other = if is_child child other then Some (length earlier) else None

-- of the child of a colour that a domain lends: the number of domains, and the colour's place among all that are lent
unfoldable pub child_number : List LendingDomain → ℕ → ℤ → Option ℕ
child_number domains d x = option_map (λ k. length domains + k) (first_in (if_child (d, x)) (said domains))

pub data Party : Type 0 where
  Domain : ℕ → Party
  Child : ℕ → ℤ → Party  -- of a domain, by its colour

unfoldable pub number_of : List LendingDomain → Party → Option ℕ
number_of domains (Domain d) = if nat_lt d (length domains) then Some d else None
number_of domains (Child d x) = child_number domains d x

-- whose entry it is
abbrev pub party_by : ℕ → Option ℤ → Party
party_by d None = Domain d
party_by d (Some x) = Child d x

abbrev pub party_of : LendingEntry → Party
party_of e = party_by (natural_of e.domain) e.lend
