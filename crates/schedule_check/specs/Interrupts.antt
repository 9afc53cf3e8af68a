-- The rules of interrupts. K14: each line is one of 32, and named once among all domains. K15: the moments of a domain are
-- on lines of its own, and ascend.
use Rattle.std.specs.Prelude.{ℕ, ◌-◌, ◌<◌, ◌^◌, ◌&&◌, ◌||◌, not, nat_lt, ℤ, pos, int_lt, Bool, if◌then◌else◌, List, length, map, slice_get, Option, Some, None}
use Rattle.std.specs.List.{All}
use Rattle.image_record.specs.declared.refusal.Refusal.{Refusal}
use Rattle.image_record.specs.Record.{Raw, RawDomain, RawMoment}
use Rattle.irq_partition.specs.declared.Moment.{Moment}
use Rattle.image_record.specs.Numbers.{IsNatural, natural_of, is_same, names}
use Rattle.image_record.specs.Cases.{or_else, first_in, refusal, outside}

-- ---- K14: a line is one of 32, and no line is named twice

-- the domain's place, where it has the line
abbrev pub lined_so : ℤ → List RawDomain → RawDomain → Option ℕ
lined_so x earlier o = if names o.lines x then Some (length earlier) else None

-- the domain that named the line before: an earlier one, or the same
abbrev pub named_before : List RawDomain → List ℤ → ℤ → Option ℕ
named_before domains earlier x =
    or_else (first_in (lined_so x) domains) (if names earlier x then Some (length domains) else None)

abbrev pub same_line : ℕ → ℤ → Option ℕ → Option Refusal
same_line d x None = None
same_line d x (Some e) = Some (refusal 14 (pos d) x (pos e))

unfoldable pub k14_line : List RawDomain → List ℤ → ℤ → Option Refusal
k14_line domains earlier x =
    if outside (pos 0) (pos 31) x then Some (refusal 14 (pos (length domains)) x (pos 32))
    else same_line (length domains) x (named_before domains earlier x)

abbrev pub k14_domain : List RawDomain → RawDomain → Option Refusal
k14_domain earlier o = first_in (k14_line earlier) o.lines

unfoldable pub k14 : Raw → Option Refusal
k14 i = first_in k14_domain i.domains

-- of a domain, in natural numbers
abbrev pub own_lines : RawDomain → List ℕ
own_lines o = map natural_of o.lines

-- they fit those of the code
pub record AreSmall (lines : List ℤ) : Type 0 where
  pub natural : All IsNatural lines
  pub small : All (λ x. natural_of x < 2 ^ 8) lines

-- ---- K15: at most 1,024 moments, each of a line of the domain and above the one before

-- domain d, the moment's place or how many there are, and the case
abbrev pub k15_refusal : ℕ → ℕ → ℕ → Option Refusal
k15_refusal d found case = Some (refusal 15 (pos d) (pos found) (pos case))

-- later, or at the same cycle of a greater line
abbrev pub is_above : RawMoment → RawMoment → Bool
is_above x y = int_lt y.at x.at || (is_same y.at x.at && int_lt y.line x.line)

-- 4: not above the one before
abbrev pub order_case : ℕ → ℕ → RawMoment → Option RawMoment → Option Refusal
order_case d place x None = None
order_case d place x (Some y) = if is_above x y then None else k15_refusal d place 4

-- 2: no cycle from 0 to 1,000,000,000,000; 3: none of the domain's lines
unfoldable pub k15_moment : List ℤ → ℕ → List RawMoment → RawMoment → Option Refusal
k15_moment lines d earlier x =
    if outside (pos 0) (pos 1000000000000) x.at then k15_refusal d (length earlier) 2
    else if not (names lines x.line) then k15_refusal d (length earlier) 3
    else order_case d (length earlier) x (slice_get earlier (length earlier - 1))

-- 1: more than 1,024 moments
unfoldable pub k15_domain : List RawDomain → RawDomain → Option Refusal
k15_domain earlier o =
    if nat_lt 1024 (length o.moments) then k15_refusal (length earlier) (length o.moments) 1
    else first_in (k15_moment o.lines (length earlier)) o.moments

unfoldable pub k15 : Raw → Option Refusal
k15 i = first_in k15_domain i.domains

-- ---- what a moment is

unfoldable pub moment_of : RawMoment → Moment
moment_of m = record { at = natural_of m.at; line = natural_of m.line }

-- of a domain
abbrev pub own_moments : RawDomain → List Moment
own_moments o = map moment_of o.moments
