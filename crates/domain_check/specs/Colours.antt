-- The rules of colours and frames, each with its first broken case.
use Rattle.std.specs.Prelude.{ℕ, ◌+◌, ◌-◌, ◌≤◌, ◌||◌, nat_lt, ℤ, pos, if◌then◌else◌, List, length, map, Option, Some, None}
use Rattle.frame_colours.specs.Colours.{Whole, share_of, pool}
use Rattle.image_record.specs.declared.refusal.Refusal.{Refusal}
use Rattle.image_record.specs.Record.{Raw, RawDomain}
use Rattle.image_record.specs.Cases.{first_in, refusal, outside}
use Rattle.image_record.specs.Numbers.{natural_of, names}
use Rattle.domain_check.specs.Segments.{Segment, segment_of}
use Rattle.domain_check.specs.Pages.{regions_below, pages_in}

-- ---- K8: a domain's colours, each from 1 on and below the number of colours, and named once

unfoldable pub k8_colour : ℕ → ℕ → List ℤ → ℤ → Option Refusal
k8_colour colours d earlier x =
    if outside (pos 1) (pos (colours - 1)) x || names earlier x then Some (refusal 8 (pos d) x (pos colours))
    else None

abbrev pub k8_domain : ℕ → List RawDomain → RawDomain → Option Refusal
k8_domain colours earlier o = first_in (k8_colour colours (length earlier)) o.colours

-- where there are so many colours
unfoldable pub k8 : ℕ → Raw → Option Refusal
k8 colours i = first_in (k8_domain colours) i.domains

-- of a domain, in natural numbers
abbrev pub own_colours : RawDomain → List ℕ
own_colours o = map natural_of o.colours

-- ---- K9: no colour of an earlier domain

-- the domain's place, where it has the colour
abbrev pub coloured_so : ℤ → List RawDomain → RawDomain → Option ℕ
coloured_so x earlier o = if names o.colours x then Some (length earlier) else None

abbrev pub same_colour : ℕ → ℤ → Option ℕ → Option Refusal
same_colour d x None = None
same_colour d x (Some e) = Some (refusal 9 (pos d) x (pos e))

abbrev pub k9_colour : List RawDomain → List ℤ → ℤ → Option Refusal
k9_colour domains earlier x = same_colour (length domains) x (first_in (coloured_so x) domains)

abbrev pub k9_domain : List RawDomain → RawDomain → Option Refusal
k9_domain earlier o = first_in (k9_colour earlier) o.colours

unfoldable pub k9 : Raw → Option Refusal
k9 i = first_in k9_domain i.domains

-- ---- K10: frames enough

-- five, a table for each region that has a page, and the pages. A page past the last one is told by the rule of segments,
-- which comes later: here it may lie in region 1,024
abbrev pub need_of : List Segment → ℕ
need_of ss = 5 + regions_below ss 1025 + pages_in ss

abbrev pub need_case : ℕ → ℕ → ℕ → Option Refusal
need_case d frames need =
    if nat_lt frames need then Some (refusal 10 (pos d) (pos frames) (pos need)) else None

-- its lists fit those of the code
pub record IsSmallDomain (o : RawDomain) : Type 0 where
  pub segments : length o.segments ≤ 16

unfoldable pub k10_case : Whole → ℕ → RawDomain → Option Refusal
k10_case whole d o =
    need_case d (length (pool (share_of whole (own_colours o)))) (need_of (map segment_of o.segments))

abbrev pub k10_domain : Whole → List RawDomain → RawDomain → Option Refusal
k10_domain whole earlier o = k10_case whole (length earlier) o

-- where a memory of frames and colours is shared out
unfoldable pub k10 : Whole → Raw → Option Refusal
k10 whole i = first_in (k10_domain whole) i.domains
