-- The cases of a segment, one after the other, and what it is.
use Rattle.std.proofs.Common.{◌≡◌, ℕ, ◌+◌, ◌<◌, ◌≤◌, Bool, true, false, List, length, Option, Some, sym, ap, ap₂}
use Rattle.std.specs.Prelude.{not, if◌then◌else◌}
use Rattle.std.proofs.lemmas.Bool.{lt-ltb, le-ltb}
use Rattle.image_record.specs.declared.refusal.Refusal.{Refusal}
use Rattle.image_record.specs.Record.{RawSegment}
use Rattle.domain_check.specs.Segments.{Segment, k12_refusal, is_rights, bytes_in, bytes_case, segment_case, rights_of, bytes_or_none, segment_of}

-- the pages, then the rights
unfoldable case_by : ℕ → List RawSegment → RawSegment → Bool → Bool → Option Refusal
case_by d earlier s past sound =
    if past then k12_refusal d (length earlier) 1
    else if not sound then k12_refusal d (length earlier) 2
    else bytes_case d earlier s (bytes_in s.hex)

pub past_case : (d : ℕ) (earlier : List RawSegment) (s : RawSegment) → 1048576 < s.page + s.pages
    → segment_case d earlier s ≡ k12_refusal d (length earlier) 1
unfolding segment_case case_by
past_case d earlier s past = ap (λ b. case_by d earlier s b (is_rights s.rights)) (lt-ltb 1048576 (s.page + s.pages) past)

pub rights_case : (d : ℕ) (earlier : List RawSegment) (s : RawSegment) → s.page + s.pages ≤ 1048576
    → is_rights s.rights ≡ false
    → segment_case d earlier s ≡ k12_refusal d (length earlier) 2
unfolding segment_case case_by
rights_case d earlier s within none = ap₂ (case_by d earlier s) (le-ltb 1048576 (s.page + s.pages) within) none

pub rest_case : (d : ℕ) (earlier : List RawSegment) (s : RawSegment) → s.page + s.pages ≤ 1048576
    → is_rights s.rights ≡ true
    → segment_case d earlier s ≡ bytes_case d earlier s (bytes_in s.hex)
unfolding segment_case case_by
rest_case d earlier s within some = ap₂ (case_by d earlier s) (le-ltb 1048576 (s.page + s.pages) within) some

pub segment_is : (s : RawSegment) (rights : ℕ) (bytes : List ℕ) → rights ≡ rights_of s.rights
    → bytes_in s.hex ≡ Some bytes
    → record { page = s.page; pages = s.pages; rights = rights; bytes = bytes } ≡ segment_of s
unfolding segment_of
segment_is s rights bytes same made =
    let made_by : ℕ → List ℕ → Segment = λ r b. record { page = s.page; pages = s.pages; rights = r; bytes = b } in
    ap₂ made_by same (ap bytes_or_none (sym made))
