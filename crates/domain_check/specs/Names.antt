-- K7, the rule of domains and their names, with its first broken case.
use Rattle.std.specs.Prelude.{ℕ, ◌&&◌, ◌||◌, nat_eq, nat_le, pos, Bool, if◌then◌else◌, List, length, Option, Some, None}
use Rattle.std.specs.List.{list_all}
use Rattle.std.specs.Str.{bytes_eq}
use Rattle.image_record.specs.declared.refusal.Refusal.{Refusal}
use Rattle.image_record.specs.Record.{Raw, RawDomain}
use Rattle.image_record.specs.Cases.{or_else, first_in, refusal, count_case}

-- a small letter or a digit
abbrev pub is_name_byte : ℕ → Bool
is_name_byte c = (nat_le 97 c && nat_le c 122) || (nat_le 48 c && nat_le c 57)

abbrev pub is_name : List ℕ → Bool
is_name s = (nat_le 1 (length s) && nat_le (length s) 16) && list_all is_name_byte s

-- where the name stands among the domains of this place and after it
abbrev pub named_so : List ℕ → List RawDomain → RawDomain → Option ℕ
named_so name earlier o = if bytes_eq o.name name then Some (length earlier) else None

-- an earlier domain of the same name
abbrev pub same_name : ℕ → Option ℕ → Option Refusal
same_name d None = None
same_name d (Some e) = Some (refusal 7 (pos d) (pos e) (pos 0))

unfoldable pub k7_domain : List RawDomain → RawDomain → Option Refusal
k7_domain earlier o =
    if is_name o.name then same_name (length earlier) (first_in (named_so o.name) earlier)
    else Some (refusal 7 (pos (length earlier)) (pos (length o.name)) (pos 16))

-- 1 to 16 domains, in the second version 32
abbrev pub most_domains : ℕ → ℕ
most_domains version = if nat_eq version 1 then 16 else 32

-- how many there are, and then each one's name
unfoldable pub k7 : Raw → Option Refusal
k7 i =
    let most = most_domains i.version in
    or_else (count_case 7 most most most (length i.domains)) (first_in k7_domain i.domains)
