-- K13, the rule of initial capabilities: the text of each slot names nothing, a page of the domain's segments, or one of its
-- interrupt lines; and no page and no line is named twice.
use Rattle.std.specs.Prelude.{ℕ, ◌<◌, ◌^◌, nat_lt, ⊤, pos, Bool, if◌then◌else◌, List, length, map, Option, Some, None}
use Rattle.std.specs.List.{list_any}
use Rattle.std.specs.Str.{bytes_eq}
use Rattle.image_record.specs.declared.refusal.Refusal.{Refusal}
use Rattle.image_record.specs.Record.{Raw, RawDomain, RawSegment}
use Rattle.image_record.specs.Cases.{first_in, refusal}
use Rattle.image_record.specs.Numbers.{names}
use Rattle.domain_check.specs.Segments.{has_page}
use Rattle.domain_check.specs.CapTexts.{cap_in}
use Rattle.domain_check.specs.declared.capabilities.InitialCap.{InitialCap}
use Rattle.domain_check.specs.declared.capabilities.InitialCap.TheVariants.{None as NoCap, Page, Irq}

-- domain d, the slot or how many there are, and the case
abbrev pub k13_refusal : ℕ → ℕ → ℕ → Option Refusal
k13_refusal d found case = Some (refusal 13 (pos d) (pos found) (pos case))

abbrev pub lies_in : ℕ → RawSegment → Bool
lies_in page s = has_page s page

-- 5: an earlier slot has the same text. Equal texts name the same, and others another, as no zero stands before a number
abbrev pub again_case : ℕ → List (List ℕ) → List ℕ → Option Refusal
again_case d earlier s = if list_any (bytes_eq s) earlier then k13_refusal d (length earlier) 5 else None

-- 2: no text of a slot; 3: a page in no segment; 4: none of the domain's lines
abbrev pub named_case : RawDomain → ℕ → List (List ℕ) → List ℕ → Option InitialCap → Option Refusal
named_case o d earlier s None = k13_refusal d (length earlier) 2
named_case o d earlier s (Some NoCap) = None
named_case o d earlier s (Some (Page n)) =
    if list_any (lies_in n) o.segments then again_case d earlier s else k13_refusal d (length earlier) 3
named_case o d earlier s (Some (Irq n)) =
    if names o.lines (pos n) then again_case d earlier s else k13_refusal d (length earlier) 4

unfoldable pub k13_case : RawDomain → ℕ → List (List ℕ) → List ℕ → Option Refusal
k13_case o d earlier s = named_case o d earlier s (cap_in s)

-- 1: more than 64 slots
unfoldable pub k13_domain : List RawDomain → RawDomain → Option Refusal
k13_domain earlier o =
    if nat_lt 64 (length o.caps) then k13_refusal (length earlier) (length o.caps) 1
    else first_in (k13_case o (length earlier)) o.caps

unfoldable pub k13 : Raw → Option Refusal
k13 i = first_in k13_domain i.domains

-- ---- what the slots name

-- a slot names what its text names
abbrev pub own_cap : Option InitialCap → InitialCap
own_cap None = NoCap
own_cap (Some c) = c

unfoldable pub cap_of : List ℕ → InitialCap
cap_of s = own_cap (cap_in s)

-- of a domain
abbrev pub caps_of : RawDomain → List InitialCap
caps_of o = map cap_of o.caps

-- the number of a page or a line fits that of the code
abbrev pub IsSmallCap : InitialCap → Type 0
IsSmallCap NoCap = ⊤
IsSmallCap (Page n) = n < 2 ^ 32
IsSmallCap (Irq n) = n < 2 ^ 8
