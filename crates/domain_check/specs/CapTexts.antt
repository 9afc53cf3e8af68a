-- What the text of a capability slot names: nothing, a page, or an interrupt line.
use Rattle.std.specs.Prelude.{ℕ, ◌==◌, ◌&&◌, not, nat_le, nat_lt, ◌<◌, ◌^◌, ⊤, Bool, if◌then◌else◌, List, length, take, drop, slice_index, codes, option_map, Option, Some, None}
use Rattle.std.specs.Char.{is_ascii_digit}
use Rattle.std.specs.List.{list_all}
use Rattle.std.specs.Str.{bytes_eq}
use Rattle.std.specs.Str.Parse.{digits_value}
use Rattle.image_record.specs.Cases.{or_else}
use Rattle.domain_check.specs.declared.capabilities.InitialCap.{InitialCap}
use Rattle.domain_check.specs.declared.capabilities.InitialCap.TheVariants.{None as NoCap, Page, Irq}

-- 1 to 10 digits, and no zero before others
abbrev pub is_numeral : List ℕ → Bool
is_numeral s =
    (nat_le 1 (length s) && nat_le (length s) 10)
    && (not (nat_lt 1 (length s) && slice_index s 0 == 48) && list_all is_ascii_digit s)

-- the number that a text writes, if it writes one
abbrev pub number_in : List ℕ → Option ℕ
number_in s = if is_numeral s then Some (digits_value 10 s) else None

abbrev pub number_if : Option (List ℕ) → Option ℕ
number_if None = None
number_if (Some s) = number_in s

-- what follows a word, if the text begins with it
abbrev pub after : List ℕ → List ℕ → Option (List ℕ)
after word s = if bytes_eq (take (length word) s) word then Some (drop (length word) s) else None

unfoldable pub number_after : List ℕ → List ℕ → Option ℕ
number_after word s = number_if (after word s)

-- what the text of a slot names, if it is such a text
unfoldable pub cap_in : List ℕ → Option InitialCap
cap_in s =
    if bytes_eq s (codes "none") then Some NoCap
    else or_else (option_map Page (number_after (codes "page ") s))
    (option_map Irq (number_after (codes "irq ") s))

-- its number has at most ten digits
abbrev pub IsShort : InitialCap → Type 0
IsShort NoCap = ⊤
IsShort (Page n) = n < 10 ^ 10
IsShort (Irq n) = n < 10 ^ 10
