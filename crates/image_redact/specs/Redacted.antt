-- The record that the tenant of one domain may hold: of every domain other than that one and those that may tell it words, it has
-- the place and the colours alone.
use Rattle.std.specs.Prelude.{ℕ, zero, suc, ◌+◌, nat_eq, ◌||◌, ◌&&◌, Bool, false, ℤ, pos, if◌then◌else◌, List, [], ◌∷◌, ◌++◌, length, slice_index_or, codes, decimal, Option, Some, None}
use Rattle.std.specs.List.{list_any}
use Rattle.std.specs.Str.{bytes_eq}
use Rattle.image_record.specs.Record.{Raw, RawDomain, RawSegment, RawMailbox}
use Rattle.image_record.specs.Numbers.{natural_of}

-- ---- which domains are kept

-- whether domain e is one of these, where each domain has its place
abbrev pub is_among : List Bool → ℕ → Bool
is_among kept e = slice_index_or kept e false

-- what is so of each number below n
abbrev pub each_below : ℕ → (ℕ → Bool) → List Bool
each_below zero test = []
each_below (suc n) test = each_below n test ++ test n ∷ []

-- a box leads from domain e to one of these
abbrev pub tells : List RawMailbox → List Bool → ℕ → Bool
tells mail kept e = list_any (λ box. nat_eq (natural_of box.from) e && is_among kept (natural_of box.to)) mail

-- of so many domains those from which a chain of at most n boxes leads to domain d
unfoldable pub leads : List RawMailbox → ℕ → ℕ → ℕ → List Bool
leads mail domains d zero = each_below domains (λ e. nat_eq e d)
leads mail domains d (suc n) =
    let kept = leads mail domains d n in
    each_below domains (λ e. is_among kept e || tells mail kept e)

-- no chain needs more boxes than there are domains
unfoldable pub kept_domains : Raw → ℕ → List Bool
kept_domains i d = leads i.mail (length i.domains) d (length i.domains)

abbrev pub is_kept : Raw → ℕ → ℕ → Bool
is_kept i d e = is_among (kept_domains i d) e

-- ---- what the others are called

-- the names of those that are kept, of the domains from number n on
abbrev pub names_from : List Bool → ℕ → List RawDomain → List (List ℕ)
names_from kept n [] = []
names_from kept n (o ∷ os) =
    if is_among kept n then o.name ∷ names_from kept (n + 1) os else names_from kept (n + 1) os

abbrev pub is_taken : List (List ℕ) → List ℕ → Bool
is_taken taken name = list_any (λ other. bytes_eq other name) taken

-- `e` and a number
abbrev pub numbered : ℕ → List ℕ
numbered n = codes "e" ++ decimal n

-- the first of n, n + 32, n + 64 and so on whose name is not taken; so many are tried
unfoldable pub free_number : List (List ℕ) → ℕ → ℕ → ℕ
free_number taken zero n = n
free_number taken (suc more) n = if is_taken taken (numbered n) then free_number taken more (n + 32) else n

-- the name of domain n beside those that are kept: of one more numbers than they have names, one is free
unfoldable pub name_beside : List (List ℕ) → ℕ → List ℕ
name_beside taken n = numbered (free_number taken (length taken + 1) n)

-- ---- what the others have

-- ADDI x17, x0, 0 and ECALL: the domain exits
abbrev pub exit_segment : RawSegment
exit_segment = record { page = 16; pages = 1; rights = codes "x"; hex = codes "9308000073000000" }

-- EXIT alone; in the first version no domain says its calls
abbrev pub exit_alone : ℕ → Option (List ℤ)
exit_alone version = if nat_eq version 1 then None else Some (pos 0 ∷ [])

-- domain n with nothing of its own but its colours
unfoldable pub emptied : ℕ → List (List ℕ) → ℕ → RawDomain → RawDomain
emptied version taken n o = record {
  name = name_beside taken n;
  colours = o.colours;
  entry = 0x10000;
  segments = exit_segment ∷ [];
  caps = [];
  lines = [];
  moments = [];
  calls = exit_alone version;
}

-- domain n, where these are kept
abbrev pub redacted_at : ℕ → List Bool → List (List ℕ) → ℕ → RawDomain → RawDomain
redacted_at version kept taken n o = if is_among kept n then o else emptied version taken n o

-- the domains from number n on
abbrev pub redacted_from : ℕ → List Bool → List (List ℕ) → ℕ → List RawDomain → List RawDomain
redacted_from version kept taken n [] = []
redacted_from version kept taken n (o ∷ os) =
    redacted_at version kept taken n o ∷ redacted_from version kept taken (n + 1) os

-- the names that are taken, where domain d's tenant is to hold the record
abbrev pub taken_names : Raw → ℕ → List (List ℕ)
taken_names i d = names_from (kept_domains i d) 0 i.domains

unfoldable pub redacted : Raw → ℕ → Raw
redacted i d = record i { domains = redacted_from i.version (kept_domains i d) (taken_names i d) 0 i.domains }
