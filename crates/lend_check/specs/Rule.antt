-- K21, the rule of lent colours: each is a colour of the memory, nobody's own, lent once and of at least seven frames;
-- an entry that is set aside is for a colour that its domain lends; and domains and lent colours are at most 16, in the
-- second version 32.
use Rattle.std.specs.Prelude.{◌≡◌, ℕ, ◌+◌, ◌-◌, ◌<◌, ◌≤◌, ◌||◌, nat_eq, nat_lt, ℤ, pos, Bool, true, false, if◌then◌else◌, List, [], ◌∷◌, length, slice_get, Option, Some, None}
use Rattle.std.specs.List.{list_any}
use Rattle.frame_colours.specs.Colours.{Whole, share_of, pool, has}
use Rattle.image_record.specs.declared.refusal.Refusal.{Refusal}
use Rattle.image_record.specs.Numbers.{IsNatural, natural_of, is_same, names}
use Rattle.image_record.specs.Cases.{or_else, first_in, refusal, outside}
use Rattle.lend_check.specs.Lending.{LendingDomain, LendingEntry, Lending, lend_of, own_colours, said, lent}
use Rattle.lend_check.specs.Parties.{parties}

-- the domain, the entry or 0, what stands there, and the case
abbrev pub k21_refusal : ℕ → ℤ → ℕ → Option Refusal
k21_refusal at found case = Some (refusal 21 (pos at) found (pos case))

-- ---- a lent colour, after those that were lent before it

abbrev pub is_own : List LendingDomain → ℤ → Bool
is_own domains x = list_any (λ o. names o.colours x) domains

abbrev pub is_lent : List (ℕ × ℤ) → ℤ → Bool
is_lent earlier x = list_any (λ l. is_same l.1 x) earlier

abbrev pub is_barred : ℕ → List LendingDomain → List (ℕ × ℤ) → ℤ → Bool
is_barred colours domains earlier x =
    outside (pos 1) (pos (colours - 1)) x || (is_own domains x || is_lent earlier x)

-- how many frames have the colour
abbrev pub frames_of : Whole → ℕ → ℕ
frames_of whole c = length (pool (share_of whole (c ∷ [])))

-- a child has four frames for its clone of the kernel, a root, a table and a page
abbrev pub least_frames : ℕ
least_frames = 7

-- 1: none of 1 to C - 1, some domain's own, or lent before; 2: fewer than seven frames have it
unfoldable pub k21_colour : Whole → List LendingDomain → List (ℕ × ℤ) → ℕ × ℤ → Option Refusal
k21_colour whole domains earlier l =
    if is_barred whole.colours domains earlier l.1 then k21_refusal l.0 l.1 1
    else if nat_lt (frames_of whole (natural_of l.1)) least_frames then k21_refusal l.0 l.1 2
    else None

-- ---- an entry

abbrev pub k21_lend : ℕ → List ℤ → Option ℤ → Option Refusal
k21_lend entry lend None = None
k21_lend entry lend (Some x) = if names lend x then None else k21_refusal entry x 3

-- 3: its domain doesn't lend the colour
unfoldable pub k21_entry : List LendingDomain → List LendingEntry → LendingEntry → Option Refusal
k21_entry domains earlier e = k21_lend (length earlier) (lend_of domains e.domain) e.lend

-- its domain is one of so many, as the rule of the schedule tests before
pub record IsOfDomain (many : ℕ) (e : LendingEntry) : Type 0 where
  pub natural : IsNatural e.domain
  pub there : natural_of e.domain < many

-- ---- how many there are

-- in the first version 16
abbrev pub most_parties : ℕ → ℕ
most_parties version = if nat_eq version 1 then 16 else 32

-- 4: domains and lent colours together are more
unfoldable pub k21_parties : ℕ → List LendingDomain → Option Refusal
k21_parties version domains =
    if nat_lt (most_parties version) (parties domains) then k21_refusal 0 (pos (parties domains)) 4 else None

-- where a memory of frames and colours is shared out
unfoldable pub k21 : Whole → Lending → Option Refusal
k21 whole i =
    or_else (first_in (k21_colour whole i.domains) (said i.domains))
    (or_else (first_in (k21_entry i.domains) i.schedule) (k21_parties i.version i.domains))

-- ---- what the rule lets through

pub record IsLent (whole : Whole) (domains : List LendingDomain) (c : ℕ) : Type 0 where
  pub some : 0 < c
  pub range : c < whole.colours
  pub unowned : (d : ℕ) → has (own_colours domains d) c ≡ false
  pub frames : least_frames ≤ frames_of whole c

pub record AreLent (whole : Whole) (i : Lending) : Type 0 where
  pub each : (k : ℕ) (l : ℕ × ℕ) → slice_get (lent i.domains) k ≡ Some l → IsLent whole i.domains l.1
  pub once : (j k : ℕ) (l m : ℕ × ℕ) → slice_get (lent i.domains) j ≡ Some l → slice_get (lent i.domains) k ≡ Some m
      → l.1 ≡ m.1 → j ≡ k
  pub entries : (e : ℕ) (entry : LendingEntry) (x : ℤ) → slice_get i.schedule e ≡ Some entry → entry.lend ≡ Some x
      → names (lend_of i.domains entry.domain) x ≡ true
  pub few : length i.domains + length (lent i.domains) ≤ most_parties i.version
