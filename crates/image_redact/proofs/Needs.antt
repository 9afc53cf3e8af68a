-- A domain that keeps the rule of segments needs seven frames at least.
use Rattle.std.proofs.Common.{◌≡◌, ℕ, zero, suc, ◌+◌, ◌*◌, ◌/◌, ◌<◌, ◌≤◌, Bool, true, false, ◌&&◌, ◌||◌, List, [], ◌∷◌, ◌++◌, length, map, None, refl, sym, ap, ◌∙◌, inl, inr, true≢false, arith}
use Rattle.std.specs.Prelude.{nat_le, nat_lt, pos}
use Rattle.std.specs.List.{list_any}
use Rattle.std.proofs.lemmas.Bool.{cases_Bool, and_parts, or_cases, leb-true, ltb-true, ltb-false, lt-ltb}
use Rattle.std.proofs.lemmas.Bool.Decides.{nat_tests}
use Rattle.image_record.specs.Record.{RawDomain, RawSegment}
use Rattle.image_record.specs.Cases.{first_case, first_in, refusal}
use Rattle.image_record.proofs.FirstCases.{or_first, or_rest, if_first, passed}
use Rattle.domain_check.specs.Segments.{Segment, segment_of, has_execute, has_page, segment_case, executes, entry_case, k12_domain}
use Rattle.domain_check.specs.Pages.{meets, has_region, regions_below, pages_in}
use Rattle.domain_check.specs.Colours.{need_of}
use Rattle.image_redact.specs.Redacted.{exit_segment}

-- a page, and the segment that has it
record HasPage (ss : List RawSegment) (page : ℕ) : Type 0 where
  some_pages : 1 ≤ pages_in (map segment_of ss)
  region : has_region (map segment_of ss) (page / 1024) ≡ true
  early : page < 1048576

segment_meets : (s : RawSegment) (page : ℕ) → has_page s page ≡ true
    → meets (segment_of s) (page / 1024) ≡ true
unfolding segment_of
segment_meets s page h =
    let both = and_parts (nat_le s.page page) _ h in
    let low = leb-true s.page page both.0 in
    let high = ltb-true page (s.page + s.pages) both.1 in
    let a : s.page < 1024 * (page / 1024) + 1024 = omega (arith, low) in
    let b : 1024 * (page / 1024) < s.page + s.pages = omega (arith, high) in
    rw (lt-ltb s.page (1024 * (page / 1024) + 1024) a, lt-ltb (1024 * (page / 1024)) (s.page + s.pages) b)

first_fits : (d : ℕ) (earlier : List RawSegment) (s : RawSegment) → segment_case d earlier s ≡ None
    → s.page + s.pages ≤ 1048576
unfolding segment_case
first_fits d earlier s h =
    ltb-false 1048576 (s.page + s.pages)
    (if_first (nat_lt 1048576 (s.page + s.pages)) (refusal 12 (pos d) (pos (length earlier)) (pos 1)) _ h)

page_found : (d page : ℕ) (earlier ss : List RawSegment) → first_case (segment_case d) earlier ss ≡ None
    → list_any (executes page) ss ≡ true → HasPage ss page
unfolding pages_in has_region segment_of
page_found d page earlier [] h found = absurd (true≢false (sym found))
page_found d page earlier (s ∷ ss) h found = elim (or_cases (executes page s) (list_any (executes page) ss) found) [
  | inl here ↦
      let its = (and_parts (has_execute s.rights) (has_page s page) here).1 in
      let both = and_parts (nat_le s.page page) _ its in
      let low = leb-true s.page page both.0 in
      let high = ltb-true page (s.page + s.pages) both.1 in
      let fits = first_fits d earlier s (or_first (segment_case d earlier s) _ h) in
      record {
        some_pages = omega (arith, low, high);
        region = rw (segment_meets s page its);
        early = omega (arith, high, fits);
      }
  | inr there ↦
      let rest = page_found d page (earlier ++ s ∷ []) ss (or_rest (segment_case d earlier s) _ h) there in
      let some = rest.some_pages in
      record { some_pages = omega (arith, some); region = met (meets (segment_of s) (page / 1024)) _ rest.region; early = rest.early }
]
  where
    met : (a b : Bool) → b ≡ true → a || b ≡ true
    met true b h = refl
    met false b h = h

-- a region that has a page is counted
counted : (ss : List Segment) (r : ℕ) → has_region ss r ≡ true → (most : ℕ) → r < most → 1 ≤ regions_below ss most
unfolding regions_below
counted ss r h zero l = absurd (omega (arith, l))
counted ss r h (suc m) l = elim (cases_Bool (nat_lt r m)) [
  | inl less ↦
      let below : r < m = ltb-true r m less in
      let rest = counted ss r h m below in
      omega (arith, rest)
  | inr last ↦
      let same : r ≡ m = omega (arith, ltb-false r m last, l) in
      let met : has_region ss m ≡ true = ap (has_region ss) (sym same) ∙ h in
      rw met (omega arith)
]

-- five frames, a table and a page
pub least_need : (earlier : List RawDomain) (o : RawDomain) → k12_domain earlier o ≡ None
    → 7 ≤ need_of (map segment_of o.segments)
unfolding k12_domain entry_case
least_need earlier o h =
    let d = length earlier in
    let segments = or_first (first_in (segment_case d) o.segments) _ h in
    let entry = or_rest (first_in (segment_case d) o.segments) _ h in
    let tested = (passed _ None _ entry).0 in
    let executed = (and_parts _ (list_any (executes (o.entry / 4096)) o.segments) tested).1 in
    let has = page_found d (o.entry / 4096) [] o.segments segments executed in
    let early = has.early in
    let low : o.entry / 4096 / 1024 < 1025 = omega (arith, early) in
    let region = counted (map segment_of o.segments) (o.entry / 4096 / 1024) has.region 1025 low in
    let pages = has.some_pages in
    omega (arith, region, pages)

-- ---- an emptied one

-- one page of region 0
one_region : (s : Segment) → s.page ≡ 16 → s.pages ≡ 1 → (m : ℕ) → regions_below (s ∷ []) (suc m) ≡ 1
unfolding regions_below has_region
one_region s page pages zero =
    let low : nat_lt s.page (1024 * 0 + 1024) ≡ true = grind (arith, nat_tests, page) in
    let high : nat_lt (1024 * 0) (s.page + s.pages) ≡ true = grind (arith, nat_tests, page, pages) in
    rw (low, high) refl
one_region s page pages (suc m) =
    let past : nat_lt (1024 * suc m) (s.page + s.pages) ≡ false = grind (arith, nat_tests, page, pages) in
    let none : meets s (suc m) ≡ false = rw past (never (nat_lt s.page (1024 * suc m + 1024))) in
    rw none (let rest = one_region s page pages m in omega (arith, rest))
  where
    never : (b : Bool) → b && false ≡ false
    never true = refl
    never false = refl

pub exit_need : need_of (map segment_of (exit_segment ∷ [])) ≡ 7
unfolding segment_of pages_in
exit_need = let one = one_region (segment_of exit_segment) refl refl 1024 in omega (arith, one)
