-- The numbers and lists of an image that is read are in the ranges of their rows.
use Rattle.std.proofs.Common.{◌≡◌, ℕ, zero, suc, ◌<◌, ◌≤◌, ◌^◌, ◌&&◌, nat_le, ℤ, pos, negsuc, Bool, true, false, if◌then◌else◌, length, codes, slice_index_or, Option, Some, None, IfOk, refl, sym, arith, lit<, lit≤}
use Rattle.std.proofs.lemmas.Bool.{leb-true, and_parts, true≢false}
use Rattle.std.proofs.lemmas.Result.{IfOk-at_ok}
use Rattle.toml.specs.Data.{Data, Items, no_items, item, Members, no_members, get_member}
use Rattle.image_text.specs.Rows.{Row, needs, SomeTables, all_items, count_items, some_tables, fits, fits_if, whole_in, whole_item, items_or_none, items_at, broken_in, Broken, key_rows}
use Rattle.image_text.specs.Unknown.{broken_key}
use Rattle.image_record.specs.Record.{RawDomain, IsRawSegment, no_raw_segment, no_raw_domain, raw_domain, AreInKeyRanges, InKeyRanges}
use Rattle.image_text.specs.Record.{integer_at, ranged, map_items, table_of, segment_of, segment_in, domain_of, domain_in, record_of, document, read_whole, read_table, image_of, RangesLaw}
use Rattle.image_text.specs.declared.kinds.Place.TheVariants.{Domain as DomainPlace}
use Rattle.image_text.proofs.WholeRows.{all_pass, whole_from, first_whole, rows_whole}

-- ---- numbers

-- a number of a range
record Between (low high n : ℕ) : Type 0 where
  least : low ≤ n
  most : n ≤ high

between_if : (low high n : ℕ) (inside : Bool) → nat_le low n && nat_le n high ≡ inside → low ≤ high
    → Between low high (if inside then n else low)
between_if low high n true is ordered =
    let both = and_parts _ _ is in
    record { least = leb-true low n both.0; most = leb-true n high both.1 }
between_if low high n false is ordered = record { least = omega arith; most = ordered }

ranged_between : (low high : ℕ) (z : ℤ) → low ≤ high → Between low high (ranged low high z)
ranged_between low high (pos n) ordered = between_if low high n _ refl ordered
ranged_between low high (negsuc n) ordered = record { least = omega arith; most = ordered }

-- ---- items

-- what holds of each item's value, and of none, holds at each place
each_at : {A : Type 0} (f : Data → A) (P : A → Type 0) (none : A) → P none → ((d : Data) → P (f d))
    → (ds : Items) (k : ℕ) → P (slice_index_or (map_items f ds) k none)
each_at f P none q each no_items k = q
each_at f P none q each (item d ds) zero = each d
each_at f P none q each (item d ds) (suc k) = each_at f P none q each ds k

-- and what holds of each value whose item passes, where all pass
pub passing_at : {A : Type 0} (test : Data → Bool) (f : Data → A) (P : A → Type 0) (none : A) → P none
    → ((d : Data) → test d ≡ true → P (f d))
    → (ds : Items) → all_items test ds ≡ true → (k : ℕ) → P (slice_index_or (map_items f ds) k none)
passing_at test f P none q each no_items h k = q
passing_at test f P none q each (item d ds) h zero = each d (and_parts (test d) (all_items test ds) h).0
passing_at test f P none q each (item d ds) h (suc k) = passing_at test f P none q each ds (and_parts (test d) (all_items test ds) h).1 k

length-map_items : {A : Type 0} (f : Data → A) (ds : Items) → length (map_items f ds) ≡ count_items ds
length-map_items f no_items = refl
length-map_items f (item d ds) = let rest = length-map_items f ds in omega (arith, rest)

-- ---- the row of a domain's segments

abbrev segment_row : Row
segment_row = needs 14 DomainPlace (codes "segment") (SomeTables 16)

abbrev Few : RawDomain → Type 0
Few d = length d.segments ≤ 16

few_items : (ds : Items) → some_tables 16 ds ≡ true → length (map_items segment_in ds) ≤ 16
few_items ds h =
    let size = nat_le 1 (count_items ds) && nat_le (count_items ds) 16 in
    let both = and_parts size _ h in
    let count = leb-true (count_items ds) 16 (and_parts (nat_le 1 (count_items ds)) _ both.0).1 in
    let same = length-map_items segment_in ds in
    omega (arith, count, same)

few_found : (o : Option Data) → fits_if true (SomeTables 16) o ≡ true
    → length (map_items segment_in (items_or_none o)) ≤ 16
unfolding fits
few_found None h = absurd (true≢false (sym h))
few_found (Some (Data.array ds)) h = few_items ds h
few_found (Some (Data.string s)) h = absurd (true≢false (sym h))
few_found (Some (Data.integer z)) h = absurd (true≢false (sym h))
few_found (Some (Data.float x)) h = absurd (true≢false (sym h))
few_found (Some (Data.boolean b)) h = absurd (true≢false (sym h))
few_found (Some (Data.datetime t)) h = absurd (true≢false (sym h))
few_found (Some (Data.table t)) h = absurd (true≢false (sym h))

few_in : (t : Members) → whole_in segment_row t ≡ true → Few (domain_of t)
unfolding whole_in domain_of
few_in t h = few_found (get_member (codes "segment") t) h

none_in : Few (domain_of no_members)
unfolding domain_of
none_in = lit≤ tt

few_item : (d : Data) → whole_item segment_row d ≡ true → Few (domain_in d)
unfolding whole_item
few_item (Data.table t) h = few_in t h
few_item (Data.string s) h = none_in
few_item (Data.integer z) h = none_in
few_item (Data.float x) h = none_in
few_item (Data.boolean b) h = none_in
few_item (Data.datetime t) h = none_in
few_item (Data.array ds) h = none_in

segments_whole : (t : Members) → broken_key t ≡ None
    → all_items (whole_item segment_row) (items_at (codes "domain") t) ≡ true
unfolding key_rows broken_in
segments_whole t h =
    all_pass (whole_item segment_row) 0 (items_at (codes "domain") t)
    (first_whole 1 segment_row _ t (whole_from 1 13 _ t (rows_whole t h)))

-- ---- the record

is_segment : (t : Members) → IsRawSegment (segment_of t)
unfolding segment_of
is_segment t =
    let page = ranged_between 0 1048575 (integer_at (codes "page") t) (lit≤ tt) in
    let pages = ranged_between 1 64 (integer_at (codes "pages") t) (lit≤ tt) in
    record { page = let most = page.most in omega (arith, most); some = pages.least; few = pages.most }

-- what holds of each domain of a table
record InRange (d : RawDomain) : Type 0 where
  entry : d.entry < 2 ^ 32
  segments : (k : ℕ) → IsRawSegment (slice_index_or d.segments k no_raw_segment)

no_segment_is : IsRawSegment no_raw_segment
no_segment_is = record { page = lit< tt; some = lit≤ tt; few = lit≤ tt }

in_range : (t : Members) → InRange (domain_of t)
unfolding domain_of
in_range t =
    let entry = (ranged_between 0 4294967295 (integer_at (codes "entry") t) (lit≤ tt)).most in
    record {
      entry = omega (arith, entry);
      segments =
          each_at segment_in IsRawSegment no_raw_segment no_segment_is (λ d. is_segment (table_of (Some d)))
          (items_at (codes "segment") t);
    }

no_domain_in_range : InRange no_raw_domain
no_domain_in_range = record { entry = lit< tt; segments = λ k. no_segment_is }

domains_in_range : (t : Members) (d : ℕ)
    → InRange (raw_domain (map_items domain_in (items_at (codes "domain") t)) d)
domains_in_range t =
    each_at domain_in InRange no_raw_domain no_domain_in_range (λ d. in_range (table_of (Some d)))
    (items_at (codes "domain") t)

domains_few : (t : Members) → broken_key t ≡ None → (d : ℕ)
    → Few (raw_domain (map_items domain_in (items_at (codes "domain") t)) d)
domains_few t h =
    passing_at (whole_item segment_row) domain_in Few no_raw_domain (lit≤ tt) few_item
    (items_at (codes "domain") t) (segments_whole t h)

pub in_key_ranges : (t : Members) → broken_key t ≡ None
    → AreInKeyRanges (map_items domain_in (items_at (codes "domain") t))
in_key_ranges t h = record {
  entry = λ d. (domains_in_range t d).entry;
  few_segments = domains_few t h;
  segments = λ d. (domains_in_range t d).segments;
}

-- ---- the image that bytes are

of_record : (t : Members) → broken_key t ≡ None → InKeyRanges (record_of t)
unfolding record_of
of_record t h = in_key_ranges t h

of_whole : (t : Members) (b : Option Broken) → broken_key t ≡ b → IfOk (read_whole t b) InKeyRanges
of_whole t None h = of_record t h
of_whole t (Some b) h = tt

of_table : (o : Option Members) → IfOk (read_table o) InKeyRanges
of_table None = tt
of_table (Some t) = of_whole t (broken_key t) refl

pub ranges_law : RangesLaw
unfolding image_of
ranges_law bytes i h = IfOk-at_ok InKeyRanges h (of_table (document bytes))
