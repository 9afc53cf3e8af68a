-- K12, the rule of segments: their pages, rights and bytes, and the entry; and what they are.
use Rattle.std.specs.Prelude.{ℕ, ◌+◌, ◌*◌, ◌/◌, ◌%◌, ◌==◌, ◌&&◌, ◌||◌, not, nat_le, nat_lt, pos, Bool, if◌then◌else◌, List, [], length, map, codes, Option, Some, None}
use Rattle.std.specs.Result.{result_ok}
use Rattle.std.specs.List.{list_any}
use Rattle.std.specs.Str.{bytes_eq}
use Rattle.hex.specs.Hex.{decode_of}
use Rattle.tp_base.specs.Rights.{rights_with}
use Rattle.image_record.specs.declared.refusal.Refusal.{Refusal}
use Rattle.image_record.specs.Record.{Raw, RawDomain, RawSegment}
use Rattle.image_record.specs.Cases.{or_else, first_in, refusal}

-- domain d, the segment at a place or the entry, and the case
abbrev pub k12_refusal : ℕ → ℕ → ℕ → Option Refusal
k12_refusal d found case = Some (refusal 12 (pos d) (pos found) (pos case))

abbrev pub has_execute : List ℕ → Bool
has_execute s = bytes_eq s (codes "x") || (bytes_eq s (codes "rx") || bytes_eq s (codes "rwx"))

abbrev pub is_rights : List ℕ → Bool
is_rights s = bytes_eq s (codes "r") || (bytes_eq s (codes "rw") || has_execute s)

-- the page is one of the segment's
abbrev pub has_page : RawSegment → ℕ → Bool
has_page s page = nat_le s.page page && nat_lt page (s.page + s.pages)

-- some page is one of both
abbrev pub share_page : RawSegment → RawSegment → Bool
share_page s e = nat_lt e.page (s.page + s.pages) && nat_lt s.page (e.page + e.pages)

-- the bytes that a text of hexadecimal digits writes, if it writes any
abbrev pub bytes_in : List ℕ → Option (List ℕ)
bytes_in hex = result_ok (decode_of hex)

-- 3: no bytes; 4: more than the pages hold; 5: a page of an earlier segment
abbrev pub bytes_case : ℕ → List RawSegment → RawSegment → Option (List ℕ) → Option Refusal
bytes_case d earlier s None = k12_refusal d (length earlier) 3
bytes_case d earlier s (Some bytes) =
    if nat_lt (s.pages * 4096) (length bytes) then k12_refusal d (length earlier) 4
    else if list_any (share_page s) earlier then k12_refusal d (length earlier) 5
    else None

-- 1: pages past the last; 2: no rights
unfoldable pub segment_case : ℕ → List RawSegment → RawSegment → Option Refusal
segment_case d earlier s =
    if nat_lt 1048576 (s.page + s.pages) then k12_refusal d (length earlier) 1
    else if not (is_rights s.rights) then k12_refusal d (length earlier) 2
    else bytes_case d earlier s (bytes_in s.hex)

-- the page may be executed
abbrev pub executes : ℕ → RawSegment → Bool
executes page s = has_execute s.rights && has_page s page

-- 6: the entry is no place of an instruction
unfoldable pub entry_case : ℕ → RawDomain → Option Refusal
entry_case d o =
    if o.entry % 4 == 0 && list_any (executes (o.entry / 4096)) o.segments then None
    else k12_refusal d o.entry 6

unfoldable pub k12_domain : List RawDomain → RawDomain → Option Refusal
k12_domain earlier o =
    or_else (first_in (segment_case (length earlier)) o.segments) (entry_case (length earlier) o)

unfoldable pub k12 : Raw → Option Refusal
k12 i = first_in k12_domain i.domains

-- ---- the segments

-- pages of a domain's address space, one after the other
pub record Segment : Type 0 where
  pub page : ℕ  -- the first page's address divided by 4,096
  pub pages : ℕ
  pub rights : ℕ  -- what they may be used for
  pub bytes : List ℕ  -- the first bytes; zeros follow to the end of the pages

abbrev pub has_read : List ℕ → Bool
has_read s =
    bytes_eq s (codes "r")
    || (bytes_eq s (codes "rw") || (bytes_eq s (codes "rx") || bytes_eq s (codes "rwx")))

abbrev pub has_write : List ℕ → Bool
has_write s = bytes_eq s (codes "rw") || bytes_eq s (codes "rwx")

abbrev pub rights_of : List ℕ → ℕ
rights_of s = rights_with (has_read s) (has_write s) (has_execute s)

abbrev pub bytes_or_none : Option (List ℕ) → List ℕ
bytes_or_none (Some bytes) = bytes
bytes_or_none None = []

unfoldable pub segment_of : RawSegment → Segment
segment_of s = record {
  page = s.page;
  pages = s.pages;
  rights = rights_of s.rights;
  bytes = bytes_or_none (bytes_in s.hex);
}

-- of a domain
abbrev pub segments_of : RawDomain → List Segment
segments_of o = map segment_of o.segments
