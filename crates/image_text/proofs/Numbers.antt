-- The numbers and truth values of an image that is read are those of its text.
use Rattle.std.proofs.Common.{◌≡◌, ℕ, zero, suc, if◌then◌else◌, ◌⊎◌, ◌&&◌, nat_le, pos, negsuc, Bool, true, false, List, [], ◌∷◌, take, drop, codes, Option, Some, None, option_map, Ok, IfOk, refl, sym, subst, ap, ◌∙◌, inl, inr, arith}
use Rattle.std.proofs.lemmas.Bool.{leb-true, and_parts, true≢false}
use Rattle.std.proofs.lemmas.Result.{IfOk-at_ok}
use Rattle.toml.specs.Data.{Data, Items, no_items, item, Members, get_member, as_integer, as_array, as_table}
use Rattle.image_text.specs.Rows.{Row, Field, Kind, One, Array, SomeTables, Pairs, Fields, needs, may_have, integer, text, of_own_row, version_from, version_of, fits_one, all_items, count_items, some_tables, is_pair, is_pair_value, in_array, has_one, has_field, has_all, in_fields, cache_fields, level2_fields, cost_fields, muldiv_fields, fits, fits_if, whole_in, whole_item, whole_level2, whole_segments, items_or_none, items_at, broken_in, Broken, first_broken, key_rows}
use Rattle.image_text.specs.Unknown.{broken_key}
use Rattle.image_text.specs.Record.{integer_of, integer_at, truth_of, truth_at, ranged, map_items, table_of, cache_of, back_at, costs_of, muldiv_of, muldiv_at, integer_if, targets_at, table_if, items_if, integers_in, segment_of, segment_in, moment_in, domain_of, domain_in, entry_of, entry_in, mailbox_of, mailbox_in, record_of, read_whole, read_table, image_of}
use Rattle.image_text.specs.Numbers.{IsInteger, IntegerAt, IntegerOrZeroAt, TruthOrFalseAt, IntegerIfAt, TableAt, TableIfAt, Each, ArrayAt, ArrayIfAt, IsTableOf, VersionAt, ArrayOrNoneAt, CacheNumbers, Level2Numbers, CostNumbers, MuldivNumbers, SegmentNumbers, IsMoment, DomainNumbers, EntryNumbers, MailboxNumbers, Numbers, NumbersLaw}
use Rattle.image_text.specs.declared.kinds.Simple.TheVariants.{Integer, Within, Truth, Table}
use Rattle.image_text.specs.declared.kinds.Place.TheVariants.{Top as TopPlace, Level2 as Level2Place, Domain as DomainPlace, Segment as SegmentPlace, Entry as EntryPlace, Mail as MailPlace}
use Rattle.image_text.proofs.WholeRows.{all_pass, holds_if, whole_from, first_whole, rows_whole, later_whole_first, versions}
use Rattle.image_text.proofs.Calls.{calls_row, calls_whole}

-- ---- values

no : {A : Type 0} → false ≡ true → A
no h = absurd (true≢false (sym h))

integer_here : (d : Data) → fits_one Integer d ≡ true → IsInteger d (integer_of (Some d))
integer_here (Data.integer z) h = refl
integer_here (Data.string s) h = no h
integer_here (Data.float x) h = no h
integer_here (Data.boolean b) h = no h
integer_here (Data.datetime t) h = no h
integer_here (Data.array ds) h = no h
integer_here (Data.table t) h = no h

in_range : (low high n : ℕ) → nat_le low n && nat_le n high ≡ true → pos n ≡ pos (ranged low high (pos n))
in_range low high n h = rw h refl

ranged_here : (low high : ℕ) (d : Data) → fits_one (Within low high) d ≡ true
    → IsInteger d (pos (ranged low high (integer_of (Some d))))
ranged_here low high (Data.integer (pos n)) h = ap (λ z. Data.integer z) (in_range low high n h)
ranged_here low high (Data.integer (negsuc n)) h = no h
ranged_here low high (Data.string s) h = no h
ranged_here low high (Data.float x) h = no h
ranged_here low high (Data.boolean b) h = no h
ranged_here low high (Data.datetime t) h = no h
ranged_here low high (Data.array ds) h = no h
ranged_here low high (Data.table t) h = no h

truth_here : (d : Data) → fits_one Truth d ≡ true → d ≡ Data.boolean (truth_of (Some d))
truth_here (Data.boolean b) h = refl
truth_here (Data.integer z) h = no h
truth_here (Data.string s) h = no h
truth_here (Data.float x) h = no h
truth_here (Data.datetime t) h = no h
truth_here (Data.array ds) h = no h
truth_here (Data.table t) h = no h

record IsArray (p : Items → Bool) (d : Data) : Type 0 where
  items : Items
  is : d ≡ Data.array items
  holds : p items ≡ true

array_here : (p : Items → Bool) (d : Data) → in_array p (as_array d) ≡ true → IsArray p d
array_here p (Data.array ds) h = record { items = ds; is = refl; holds = h }
array_here p (Data.string s) h = no h
array_here p (Data.integer z) h = no h
array_here p (Data.float x) h = no h
array_here p (Data.boolean b) h = no h
array_here p (Data.datetime t) h = no h
array_here p (Data.table t) h = no h

record IsTable (p : Members → Bool) (d : Data) : Type 0 where
  table : Members
  is : d ≡ Data.table table
  holds : p table ≡ true

fields_here : (fields : List Field) (d : Data) → in_fields fields (as_table d) ≡ true
    → IsTable (has_all fields) d
fields_here fields (Data.table t) h = record { table = t; is = refl; holds = h }
fields_here fields (Data.array ds) h = no h
fields_here fields (Data.string s) h = no h
fields_here fields (Data.integer z) h = no h
fields_here fields (Data.float x) h = no h
fields_here fields (Data.boolean b) h = no h
fields_here fields (Data.datetime t) h = no h

both_integers : (x y : Data) → fits_one Integer x && fits_one Integer y ≡ true
    → Data.array (item x (item y no_items))
    ≡ Data.array (item (Data.integer (integer_of (Some x)))
    (item (Data.integer (integer_of (Some y))) no_items))
both_integers x y h =
    let both = and_parts (fits_one Integer x) (fits_one Integer y) h in
    rw (← integer_here x both.0, ← integer_here y both.1) refl

pair_here : (ds : Items) → is_pair (Some ds) ≡ true → IsMoment (Data.array ds) (moment_in (Data.array ds))
pair_here no_items h = no h
pair_here (item x no_items) h = no h
pair_here (item x (item y no_items)) h = both_integers x y h
pair_here (item x (item y (item z ds))) h = no h

moment_here : (d : Data) → is_pair_value d ≡ true → IsMoment d (moment_in d)
moment_here (Data.array ds) h = pair_here ds h
moment_here (Data.string s) h = no h
moment_here (Data.integer z) h = no h
moment_here (Data.float x) h = no h
moment_here (Data.boolean b) h = no h
moment_here (Data.datetime t) h = no h
moment_here (Data.table t) h = no h

-- ---- the version

one_of_two : (n : ℕ) → nat_le 1 n && nat_le n 2 ≡ true → n ≡ (if nat_le 1 n && nat_le n 1 then 1 else 2)
one_of_two zero h = no h
one_of_two (suc zero) h = refl
one_of_two (suc (suc zero)) h = refl
one_of_two (suc (suc (suc n))) h =
    let both = and_parts (nat_le 1 (suc (suc (suc n)))) (nat_le (suc (suc (suc n))) 2) h in
    let most = leb-true (suc (suc (suc n))) 2 both.1 in
    absurd (omega (arith, most))

version_here : (d : Data) → fits_one (Within 1 2) d ≡ true → IsInteger d (pos (version_from (Some d)))
version_here (Data.integer (pos n)) h = ap (λ m. Data.integer (pos m)) (one_of_two n h)
version_here (Data.integer (negsuc n)) h = no h
version_here (Data.string s) h = no h
version_here (Data.float x) h = no h
version_here (Data.boolean b) h = no h
version_here (Data.datetime t) h = no h
version_here (Data.array ds) h = no h
version_here (Data.table t) h = no h

version_found : (t : Members) (o : Option Data) → get_member (codes "version") t ≡ o
    → (version_of t ≡ 1) ⊎ (version_of t ≡ 2)
    → fits_if false (One (Within 1 2)) o ≡ true → VersionAt t (version_of t)
unfolding fits
version_found t None e is h = inl (e, ap version_from e)
version_found t (Some d) e is h =
    let same : version_from (Some d) ≡ version_of t = ap version_from (sym e) in
    let here : d ≡ Data.integer (pos (version_of t)) = version_here d h ∙ ap (λ n. Data.integer (pos n)) same in
    inr (e ∙ ap (λ x. Some x) here, is)

-- ---- items

abbrev AllOf : (Data → Type 0) → Items → Type 0
AllOf P no_items = Unit {0}
AllOf P (item d ds) = P d × AllOf P ds

all_of : (p : Data → Bool) (ds : Items) → all_items p ds ≡ true → AllOf (λ d. p d ≡ true) ds
all_of p no_items h = tt
all_of p (item d ds) h =
    let both = and_parts (p d) (all_items p ds) h in
    (both.0, all_of p ds both.1)

and_of : (P Q : Data → Type 0) (ds : Items) → AllOf P ds → AllOf Q ds → AllOf (λ d. P d × Q d) ds
and_of P Q no_items p q = tt
and_of P Q (item d ds) p q = ((p.0, q.0), and_of P Q ds p.1 q.1)

each_of : {A : Type 0} (P : Data → Type 0) (f : Data → A) (Is : Data → A → Type 0)
    → ((d : Data) → P d → Is d (f d)) → (ds : Items) → AllOf P ds → Each Is ds (map_items f ds)
each_of P f Is one no_items all = tt
each_of P f Is one (item d ds) all = (one d all.0, each_of P f Is one ds all.1)

-- ---- at a key

record Stands (kind : Kind) (o : Option Data) : Type 0 where
  value : Data
  is : o ≡ Some value
  fit : fits kind value ≡ true

stands : (kind : Kind) (o : Option Data) → fits_if true kind o ≡ true → Stands kind o
stands kind None h = no h
stands kind (Some d) h = record { value = d; is = refl; fit = h }

integer_in : (o : Option Data) → fits_if true (One Integer) o ≡ true → o ≡ Some (Data.integer (integer_of o))
unfolding fits
integer_in None h = no h
integer_in (Some d) h = ap (λ e. Some e) (integer_here d h)

ranged_in : (low high : ℕ) (o : Option Data) → fits_if true (One (Within low high)) o ≡ true
    → o ≡ Some (Data.integer (pos (ranged low high (integer_of o))))
unfolding fits
ranged_in low high None h = no h
ranged_in low high (Some d) h = ap (λ e. Some e) (ranged_here low high d h)

field_in : (o : Option Data) → has_one Integer o ≡ true → o ≡ Some (Data.integer (integer_of o))
field_in None h = no h
field_in (Some d) h = ap (λ e. Some e) (integer_here d h)

fields_at : (fields : List Field) (key : List ℕ) (t : Members) (P : Members → Members → Type 0)
    → ((u : Members) → get_member key t ≡ Some (Data.table u) → has_all fields u ≡ true → P u u)
    → fits_if true (Fields fields) (get_member key t) ≡ true → TableAt key t (P (table_of (get_member key t)))
unfolding fits
fields_at fields key t P one h =
    let s = stands (Fields fields) (get_member key t) h in
    let f = fields_here fields s.value s.fit in
    let full : get_member key t ≡ Some (Data.table f.table) = s.is ∙ ap (λ d. Some d) f.is in
    let here : P f.table f.table = one f.table full f.holds in
    record { table = f.table; stands = full; holds = subst (λ o. P (table_of o) f.table) (sym full) here }

integers_each : (ds : Items) → all_items (fits_one Integer) ds ≡ true → Each IsInteger ds (integers_in ds)
integers_each ds h =
    each_of (λ d. fits_one Integer d ≡ true) (λ d. integer_of (Some d)) IsInteger integer_here ds
    (all_of (fits_one Integer) ds h)

-- ---- at a key that may be missing

module _ (key : List ℕ) (t : Members) where
  integer_or_zero : (o : Option Data) → get_member key t ≡ o → fits_if false (One Integer) o ≡ true
      → IntegerOrZeroAt key t (integer_at key t)
  integer_or_zero None e h = inl (e, ap integer_of e)
  integer_or_zero (Some d) e h =
      let here = subst (λ o. fits_if true (One Integer) o ≡ true) (sym e) h in
      inr (integer_in (get_member key t) here)

  truth_or_false : (o : Option Data) → get_member key t ≡ o → fits_if false (One Truth) o ≡ true
      → TruthOrFalseAt key t (truth_at key t)
  unfolding fits
  truth_or_false None e h = inl (e, ap truth_of e)
  truth_or_false (Some d) e h =
      let same : Data.boolean (truth_of (Some d)) ≡ Data.boolean (truth_at key t) =
      ap (λ o. Data.boolean (truth_of o)) (sym e) in
      inr (e ∙ ap (λ x. Some x) (truth_here d h ∙ same))

  integer_if_here : (d : Data) → get_member key t ≡ Some d → fits_one Integer d ≡ true
      → IntegerIfAt key t (as_integer d)
  integer_if_here (Data.integer z) e h = e
  integer_if_here (Data.string s) e h = no h
  integer_if_here (Data.float x) e h = no h
  integer_if_here (Data.boolean b) e h = no h
  integer_if_here (Data.datetime u) e h = no h
  integer_if_here (Data.array ds) e h = no h
  integer_if_here (Data.table u) e h = no h

  integer_if_found : (o : Option Data) → get_member key t ≡ o → fits_if false (One Integer) o ≡ true
      → IntegerIfAt key t (integer_if o)
  unfolding fits
  integer_if_found None e h = e
  integer_if_found (Some d) e h = integer_if_here d e h

  array_or_none_here : (d : Data) → get_member key t ≡ Some d
      → in_array (all_items (fits_one Integer)) (as_array d) ≡ true
      → ArrayOrNoneAt key t IsInteger (option_map integers_in (as_array d))
  array_or_none_here (Data.array ds) e h = record { items = ds; stands = e; each = integers_each ds h }
  array_or_none_here (Data.integer z) e h = no h
  array_or_none_here (Data.string s) e h = no h
  array_or_none_here (Data.float x) e h = no h
  array_or_none_here (Data.boolean b) e h = no h
  array_or_none_here (Data.datetime u) e h = no h
  array_or_none_here (Data.table u) e h = no h

  array_or_none : (o : Option Data) → get_member key t ≡ o → fits_if false (Array Integer) o ≡ true
      → ArrayOrNoneAt key t IsInteger (option_map integers_in (items_if o))
  unfolding fits
  array_or_none None e h = e
  array_or_none (Some d) e h = array_or_none_here d e h

  table_if_here : {A : Type 0} (fields : List Field) (make : Members → A) (P : A → Members → Type 0)
      → ((u : Members) → has_all fields u ≡ true → P (make u) u)
      → (d : Data) → get_member key t ≡ Some d → in_fields fields (as_table d) ≡ true
      → TableIfAt key t P (option_map make (as_table d))
  table_if_here fields make P one (Data.table u) e h = record { table = u; stands = e; holds = one u h }
  table_if_here fields make P one (Data.integer z) e h = no h
  table_if_here fields make P one (Data.string s) e h = no h
  table_if_here fields make P one (Data.float x) e h = no h
  table_if_here fields make P one (Data.boolean b) e h = no h
  table_if_here fields make P one (Data.datetime u) e h = no h
  table_if_here fields make P one (Data.array ds) e h = no h

  table_if_found : {A : Type 0} (fields : List Field) (make : Members → A) (P : A → Members → Type 0)
      → ((u : Members) → has_all fields u ≡ true → P (make u) u)
      → (o : Option Data) → get_member key t ≡ o → fits_if false (Fields fields) o ≡ true
      → TableIfAt key t P (option_map make (table_if o))
  unfolding fits
  table_if_found fields make P one None e h = e
  table_if_found fields make P one (Some d) e h = table_if_here fields make P one d e h

module _ {A : Type 0} (key : List ℕ) (t : Members) (kind : Kind) (p : Items → Bool) (f : Data → A) (Is : Data → A → Type 0)
    (arrays : (d : Data) → fits kind d ≡ true → in_array p (as_array d) ≡ true)
    (one : (ds : Items) → items_at key t ≡ ds → p ds ≡ true → Each Is ds (map_items f ds)) where
  array_at : fits_if true kind (get_member key t) ≡ true → ArrayAt key t Is (map_items f (items_at key t))
  array_at h =
      let s = stands kind (get_member key t) h in
      let a = array_here p s.value (arrays s.value s.fit) in
      let full : get_member key t ≡ Some (Data.array a.items) = s.is ∙ ap (λ d. Some d) a.is in
      let same : items_at key t ≡ a.items = ap items_or_none full in
      record { items = a.items; stands = full; each = subst (λ ds. Each Is a.items (map_items f ds)) (sym same) (one a.items same a.holds) }

  array_if : (o : Option Data) → get_member key t ≡ o → fits_if false kind o ≡ true
      → ArrayIfAt key t Is (map_items f (items_at key t))
  array_if None e h = inl (e, ap (λ o. map_items f (items_or_none o)) e)
  array_if (Some d) e h = inr (array_at (subst (λ o. fits_if true kind o ≡ true) (sym e) h))

moments_each : (ds : Items) → all_items is_pair_value ds ≡ true → Each IsMoment ds (map_items moment_in ds)
moments_each ds h = each_of (λ d. is_pair_value d ≡ true) moment_in IsMoment moment_here ds (all_of is_pair_value ds h)

-- ---- fields

cache_numbers : (others : List Field) (u : Members)
    → has_all (integer (codes "sets") ∷ integer (codes "ways") ∷ others) u ≡ true → CacheNumbers (cache_of u) u
unfolding cache_of
cache_numbers others u h =
    let a = and_parts (has_field (integer (codes "sets")) u) _ h in
    let b = and_parts (has_field (integer (codes "ways")) u) _ a.1 in
    record { sets = field_in _ a.0; ways = field_in _ b.0 }

-- the row of the key that the second level's table may have
abbrev back_row : Row
back_row = may_have 27 Level2Place (codes "back") (One Truth)

back_found : (u : Members) (o : Option Data) → o ≡ Some (Data.table u) → whole_level2 back_row o ≡ true
    → TruthOrFalseAt (codes "back") u (truth_at (codes "back") u)
unfolding whole_item whole_in
back_found u o e h =
    let here : whole_in back_row u ≡ true = subst (λ x. whole_level2 back_row x ≡ true) e h in
    truth_or_false (codes "back") u (get_member (codes "back") u) refl here

cost_numbers : (u : Members) → has_all cost_fields u ≡ true → CostNumbers (costs_of u) u
unfolding cost_fields costs_of
cost_numbers u h =
    let a = and_parts (has_field (integer (codes "base")) u) _ h in
    let b = and_parts (has_field (integer (codes "l1")) u) _ a.1 in
    let c = and_parts (has_field (integer (codes "l2")) u) _ b.1 in
    let d = and_parts (has_field (integer (codes "mem")) u) _ c.1 in
    let e = and_parts (has_field (integer (codes "wb")) u) _ d.1 in
    let f = and_parts (has_field (integer (codes "tlb")) u) _ e.1 in
    let g = and_parts (has_field (integer (codes "mispredict")) u) _ f.1 in
    let k = and_parts (has_field (integer (codes "trap")) u) _ g.1 in
    let l = and_parts (has_field (integer (codes "flush")) u) _ k.1 in
    record {
      base = field_in _ a.0;
      l1 = field_in _ b.0;
      l2 = field_in _ c.0;
      mem = field_in _ d.0;
      wb = field_in _ e.0;
      tlb = field_in _ f.0;
      mispredict = field_in _ g.0;
      trap = field_in _ k.0;
      flush = field_in _ l.0;
    }

muldiv_numbers : (u : Members) → has_all muldiv_fields u ≡ true → MuldivNumbers (muldiv_of u) u
unfolding muldiv_fields muldiv_of
muldiv_numbers u h =
    let a = and_parts (has_field (integer (codes "mul")) u) _ h in
    let b = and_parts (has_field (integer (codes "div")) u) _ a.1 in
    record { mul = field_in _ a.0; div = field_in _ b.0 }

-- ---- segments

abbrev page_row : Row
page_row = needs 15 SegmentPlace (codes "page") (One (Within 0 1048575))

abbrev pages_row : Row
pages_row = needs 16 SegmentPlace (codes "pages") (One (Within 1 64))

segment_numbers : (u : Members) → whole_in page_row u ≡ true → whole_in pages_row u ≡ true
    → SegmentNumbers u (segment_of u)
unfolding whole_in segment_of
segment_numbers u page pages = record {
  page = ranged_in 0 1048575 (get_member (codes "page") u) page;
  pages = ranged_in 1 64 (get_member (codes "pages") u) pages;
}

segment_here : (d : Data)
    → (fits_one Table d ≡ true) × ((whole_item page_row d ≡ true) × (whole_item pages_row d ≡ true))
    → IsTableOf SegmentNumbers d (segment_in d)
unfolding whole_item
segment_here (Data.table u) w = segment_numbers u w.1.0 w.1.1
segment_here (Data.array ds) w = no w.0
segment_here (Data.string s) w = no w.0
segment_here (Data.integer z) w = no w.0
segment_here (Data.float x) w = no w.0
segment_here (Data.boolean b) w = no w.0
segment_here (Data.datetime t) w = no w.0

segments_each : (ds : Items) → some_tables 16 ds ≡ true → all_items (whole_item page_row) ds ≡ true
    → all_items (whole_item pages_row) ds ≡ true
    → Each (IsTableOf SegmentNumbers) ds (map_items segment_in ds)
segments_each ds tables page pages =
    let each_table = and_parts (nat_le 1 (count_items ds) && nat_le (count_items ds) 16) (all_items (fits_one Table) ds) tables in
    let P : Data → Type 0 = λ d. whole_item page_row d ≡ true in
    let Q : Data → Type 0 = λ d. whole_item pages_row d ≡ true in
    let T : Data → Type 0 = λ d. fits_one Table d ≡ true in
    let both = and_of P Q ds (all_of (whole_item page_row) ds page) (all_of (whole_item pages_row) ds pages) in
    each_of (λ d. T d × (P d × Q d)) segment_in (IsTableOf SegmentNumbers) segment_here ds
    (and_of T (λ d. P d × Q d) ds (all_of (fits_one Table) ds each_table.1) both)

-- ---- domains

abbrev colours_row : Row
colours_row = needs 12 DomainPlace (codes "colours") (Array Integer)

abbrev entry_row : Row
entry_row = needs 13 DomainPlace (codes "entry") (One (Within 0 4294967295))

abbrev segment_row : Row
segment_row = needs 14 DomainPlace (codes "segment") (SomeTables 16)

abbrev lines_row : Row
lines_row = may_have 20 DomainPlace (codes "lines") (Array Integer)

abbrev moments_row : Row
moments_row = may_have 21 DomainPlace (codes "moments") Pairs

-- the rows of a domain that speak of numbers are whole
record Whole (t : Members) : Type 0 where
  colours : whole_in colours_row t ≡ true
  entry : whole_in entry_row t ≡ true
  segment : whole_in segment_row t ≡ true
  page : all_items (whole_item page_row) (items_at (codes "segment") t) ≡ true
  pages : all_items (whole_item pages_row) (items_at (codes "segment") t) ≡ true
  lines : whole_in lines_row t ≡ true
  moments : whole_in moments_row t ≡ true
  calls : whole_in calls_row t ≡ true

domain_numbers : (u : Members) → Whole u → DomainNumbers u (domain_of u)
unfolding whole_in fits domain_of
domain_numbers u w = record {
  colours =
      array_at (codes "colours") u (Array Integer) (all_items (fits_one Integer)) (λ d. integer_of (Some d))
      IsInteger (λ d h. h) (λ ds same h. integers_each ds h) w.colours;
  entry = ranged_in 0 4294967295 (get_member (codes "entry") u) w.entry;
  segments = array_at (codes "segment") u (SomeTables 16) (some_tables 16) segment_in (IsTableOf SegmentNumbers) (λ d h. h)
      (λ ds same h. segments_each ds h (subst (λ x. all_items (whole_item page_row) x ≡ true) same w.page)
      (subst (λ x. all_items (whole_item pages_row) x ≡ true) same w.pages)) w.segment;
  lines =
      array_if (codes "lines") u (Array Integer) (all_items (fits_one Integer)) (λ d. integer_of (Some d))
      IsInteger (λ d h. h) (λ ds same h. integers_each ds h) (get_member (codes "lines") u) refl w.lines;
  moments =
      array_if (codes "moments") u Pairs (all_items is_pair_value) moment_in IsMoment (λ d h. h)
      (λ ds same h. moments_each ds h) (get_member (codes "moments") u) refl w.moments;
  calls = array_or_none (codes "calls") u (get_member (codes "calls") u) refl w.calls;
}

-- the same of an item of the array of domains
record WholeItem (d : Data) : Type 0 where
  colours : whole_item colours_row d ≡ true
  entry : whole_item entry_row d ≡ true
  segment : whole_item segment_row d ≡ true
  page : whole_segments page_row d ≡ true
  pages : whole_segments pages_row d ≡ true
  lines : whole_item lines_row d ≡ true
  moments : whole_item moments_row d ≡ true
  calls : whole_item calls_row d ≡ true

domain_here : (d : Data) → (fits_one Table d ≡ true) × WholeItem d → IsTableOf DomainNumbers d (domain_in d)
unfolding whole_item whole_segments
domain_here (Data.table u) w =
    domain_numbers u (record {
      colours = w.1.colours;
      entry = w.1.entry;
      segment = w.1.segment;
      page = w.1.page;
      pages = w.1.pages;
      lines = w.1.lines;
      moments = w.1.moments;
      calls = w.1.calls;
    })
domain_here (Data.array ds) w = no w.0
domain_here (Data.string s) w = no w.0
domain_here (Data.integer z) w = no w.0
domain_here (Data.float x) w = no w.0
domain_here (Data.boolean b) w = no w.0
domain_here (Data.datetime t) w = no w.0

record WholeItems (ds : Items) : Type 0 where
  colours : all_items (whole_item colours_row) ds ≡ true
  entry : all_items (whole_item entry_row) ds ≡ true
  segment : all_items (whole_item segment_row) ds ≡ true
  page : all_items (whole_segments page_row) ds ≡ true
  pages : all_items (whole_segments pages_row) ds ≡ true
  lines : all_items (whole_item lines_row) ds ≡ true
  moments : all_items (whole_item moments_row) ds ≡ true
  calls : all_items (whole_item calls_row) ds ≡ true

whole_items : (ds : Items) → WholeItems ds → AllOf WholeItem ds
whole_items no_items w = tt
whole_items (item d ds) w =
    let colours = and_parts (whole_item colours_row d) (all_items (whole_item colours_row) ds) w.colours in
    let entry = and_parts (whole_item entry_row d) (all_items (whole_item entry_row) ds) w.entry in
    let segment = and_parts (whole_item segment_row d) (all_items (whole_item segment_row) ds) w.segment in
    let page = and_parts (whole_segments page_row d) (all_items (whole_segments page_row) ds) w.page in
    let pages = and_parts (whole_segments pages_row d) (all_items (whole_segments pages_row) ds) w.pages in
    let lines = and_parts (whole_item lines_row d) (all_items (whole_item lines_row) ds) w.lines in
    let moments = and_parts (whole_item moments_row d) (all_items (whole_item moments_row) ds) w.moments in
    let calls = and_parts (whole_item calls_row d) (all_items (whole_item calls_row) ds) w.calls in (
      record { colours = colours.0; entry = entry.0; segment = segment.0; page = page.0; pages = pages.0; lines = lines.0; moments = moments.0; calls = calls.0 },
      whole_items ds (record { colours = colours.1; entry = entry.1; segment = segment.1; page = page.1; pages = pages.1; lines = lines.1; moments = moments.1; calls = calls.1 }),
    )

domains_each : (ds : Items) → all_items (fits_one Table) ds ≡ true → WholeItems ds
    → Each (IsTableOf DomainNumbers) ds (map_items domain_in ds)
domains_each ds tables w =
    let T : Data → Type 0 = λ d. fits_one Table d ≡ true in
    each_of (λ d. T d × WholeItem d) domain_in (IsTableOf DomainNumbers) domain_here ds
    (and_of T WholeItem ds (all_of (fits_one Table) ds tables) (whole_items ds w))

-- ---- entries

abbrev slot_domain_row : Row
slot_domain_row = needs 23 EntryPlace (codes "domain") (One Integer)

abbrev length_row : Row
length_row = needs 24 EntryPlace (codes "length") (One Integer)

abbrev pad_row : Row
pad_row = needs 25 EntryPlace (codes "pad") (One Integer)

abbrev hart_row : Row
hart_row = may_have 31 EntryPlace (codes "hart") (One Integer)

-- the rows of an item of the array of entries are whole
record WholeEntry (d : Data) : Type 0 where
  domain : whole_item slot_domain_row d ≡ true
  length : whole_item length_row d ≡ true
  pad : whole_item pad_row d ≡ true
  hart : whole_item hart_row d ≡ true

entry_numbers : (u : Members) → WholeEntry (Data.table u) → EntryNumbers u (entry_of u)
unfolding whole_item whole_in entry_of
entry_numbers u w = record {
  domain = integer_in (get_member (codes "domain") u) w.domain;
  length = integer_in (get_member (codes "length") u) w.length;
  pad = integer_in (get_member (codes "pad") u) w.pad;
  hart = integer_or_zero (codes "hart") u (get_member (codes "hart") u) refl w.hart;
}

entry_here : (d : Data) → (fits_one Table d ≡ true) × WholeEntry d → IsTableOf EntryNumbers d (entry_in d)
entry_here (Data.table u) w = entry_numbers u w.1
entry_here (Data.array ds) w = no w.0
entry_here (Data.string s) w = no w.0
entry_here (Data.integer z) w = no w.0
entry_here (Data.float x) w = no w.0
entry_here (Data.boolean b) w = no w.0
entry_here (Data.datetime t) w = no w.0

record WholeEntries (ds : Items) : Type 0 where
  domain : all_items (whole_item slot_domain_row) ds ≡ true
  length : all_items (whole_item length_row) ds ≡ true
  pad : all_items (whole_item pad_row) ds ≡ true
  hart : all_items (whole_item hart_row) ds ≡ true

whole_entries : (ds : Items) → WholeEntries ds → AllOf WholeEntry ds
whole_entries no_items w = tt
whole_entries (item d ds) w =
    let domain = and_parts (whole_item slot_domain_row d) (all_items (whole_item slot_domain_row) ds) w.domain in
    let length = and_parts (whole_item length_row d) (all_items (whole_item length_row) ds) w.length in
    let pad = and_parts (whole_item pad_row d) (all_items (whole_item pad_row) ds) w.pad in
    let hart = and_parts (whole_item hart_row d) (all_items (whole_item hart_row) ds) w.hart in (
      record { domain = domain.0; length = length.0; pad = pad.0; hart = hart.0 },
      whole_entries ds (record { domain = domain.1; length = length.1; pad = pad.1; hart = hart.1 }),
    )

entries_each : (ds : Items) → all_items (fits_one Table) ds ≡ true → WholeEntries ds
    → Each (IsTableOf EntryNumbers) ds (map_items entry_in ds)
entries_each ds tables w =
    let T : Data → Type 0 = λ d. fits_one Table d ≡ true in
    let both = and_of T WholeEntry ds (all_of (fits_one Table) ds tables) (whole_entries ds w) in
    each_of (λ d. T d × WholeEntry d) entry_in (IsTableOf EntryNumbers) entry_here ds both

-- ---- mailboxes

abbrev from_row : Row
from_row = needs 33 MailPlace (codes "from") (One Integer)

abbrev to_row : Row
to_row = needs 34 MailPlace (codes "to") (One Integer)

-- the rows of an item of the array of boxes are whole
record WholeMailbox (d : Data) : Type 0 where
  from : whole_item from_row d ≡ true
  to : whole_item to_row d ≡ true

mailbox_numbers : (u : Members) → WholeMailbox (Data.table u) → MailboxNumbers u (mailbox_of u)
unfolding whole_item whole_in mailbox_of
mailbox_numbers u w = record {
  from = integer_in (get_member (codes "from") u) w.from;
  to = integer_in (get_member (codes "to") u) w.to;
}

mailbox_here : (d : Data) → (fits_one Table d ≡ true) × WholeMailbox d
    → IsTableOf MailboxNumbers d (mailbox_in d)
mailbox_here (Data.table u) w = mailbox_numbers u w.1
mailbox_here (Data.array ds) w = no w.0
mailbox_here (Data.string s) w = no w.0
mailbox_here (Data.integer z) w = no w.0
mailbox_here (Data.float x) w = no w.0
mailbox_here (Data.boolean b) w = no w.0
mailbox_here (Data.datetime t) w = no w.0

record WholeMail (ds : Items) : Type 0 where
  from : all_items (whole_item from_row) ds ≡ true
  to : all_items (whole_item to_row) ds ≡ true

whole_mail : (ds : Items) → WholeMail ds → AllOf WholeMailbox ds
whole_mail no_items w = tt
whole_mail (item d ds) w =
    let from = and_parts (whole_item from_row d) (all_items (whole_item from_row) ds) w.from in
    let to = and_parts (whole_item to_row d) (all_items (whole_item to_row) ds) w.to in
    (record { from = from.0; to = to.0 }, whole_mail ds (record { from = from.1; to = to.1 }))

mail_each : (ds : Items) → all_items (fits_one Table) ds ≡ true → WholeMail ds
    → Each (IsTableOf MailboxNumbers) ds (map_items mailbox_in ds)
mail_each ds tables w =
    let T : Data → Type 0 = λ d. fits_one Table d ≡ true in
    let both = and_of T WholeMailbox ds (all_of (fits_one Table) ds tables) (whole_mail ds w) in
    each_of (λ d. T d × WholeMailbox d) mailbox_in (IsTableOf MailboxNumbers) mailbox_here ds both

-- ---- the rows of the table

module _ (t : Members) (whole : first_broken 1 (take 25 key_rows) t ≡ None)
    (later : first_broken 1 (drop 25 key_rows) t ≡ None)
    (of_calls : all_items (whole_item calls_row) (items_at (codes "domain") t) ≡ true) where
  -- row n + 1
  row : (n : ℕ) (r : Row) (rest : List Row) → drop n (take 25 key_rows) ≡ r ∷ rest → broken_in 1 r t ≡ None
  row n r rest e = first_whole 1 r rest t (subst (λ rows. first_broken 1 rows t ≡ None) e (whole_from 1 n (take 25 key_rows) t whole))

  -- of those after row 25
  later_row : (n : ℕ) (r : Row) (rest : List Row) → drop n (drop 25 key_rows) ≡ r ∷ rest
      → broken_in 1 r t ≡ None
  later_row n r rest e =
      let from = subst (λ rows. first_broken 1 rows t ≡ None) e (whole_from 1 n (drop 25 key_rows) t later) in
      first_whole 1 r rest t from

  version : broken_in 1 (may_have 28 TopPlace (codes "version") (One (Within 1 2))) t ≡ None
      → VersionAt t (version_of t)
  unfolding broken_in whole_in
  version h = version_found t (get_member (codes "version") t) refl (versions t) (holds_if _ h)

  history : broken_in 1 (may_have 30 TopPlace (codes "history") (One Integer)) t ≡ None
      → IntegerOrZeroAt (codes "history") t (integer_at (codes "history") t)
  unfolding broken_in whole_in
  history h = integer_or_zero (codes "history") t (get_member (codes "history") t) refl (holds_if _ h)

  muldiv : broken_in 1 (may_have 37 TopPlace (codes "muldiv") (Fields muldiv_fields)) t ≡ None
      → TableIfAt (codes "muldiv") t MuldivNumbers (muldiv_at t)
  unfolding broken_in whole_in
  muldiv h =
      let found = get_member (codes "muldiv") t in
      table_if_found (codes "muldiv") t muldiv_fields muldiv_of MuldivNumbers muldiv_numbers found refl (holds_if _ h)

  targets : broken_in 1 (may_have 38 TopPlace (codes "targets") (One Integer)) t ≡ None
      → IntegerIfAt (codes "targets") t (targets_at t)
  unfolding broken_in whole_in
  targets h = integer_if_found (codes "targets") t (get_member (codes "targets") t) refl (holds_if _ h)

  number : (key : List ℕ) (n : ℕ) → broken_in 1 (needs n TopPlace key (One Integer)) t ≡ None
      → IntegerAt key t (integer_at key t)
  unfolding broken_in whole_in
  number key n h = integer_in (get_member key t) (holds_if _ h)

  cache : (key : List ℕ) (n : ℕ) → broken_in 1 (needs n TopPlace key (Fields cache_fields)) t ≡ None
      → TableAt key t (CacheNumbers (cache_of (table_of (get_member key t))))
  unfolding broken_in whole_in cache_fields
  cache key n h =
      fields_at cache_fields key t (λ v. CacheNumbers (cache_of v))
      (λ u at all. cache_numbers (text (codes "policy") ∷ []) u all)
      (holds_if _ h)

  level2 : broken_in 1 (needs 6 TopPlace (codes "l2") (Fields level2_fields)) t ≡ None
      → broken_in 1 back_row t ≡ None
      → TableAt (codes "l2") t (Level2Numbers (cache_of (table_of (get_member (codes "l2") t))) (back_at t))
  unfolding broken_in whole_in level2_fields
  level2 h b =
      let others : List Field = text (codes "policy") ∷ of_own_row (codes "back") ∷ [] in
      let found = get_member (codes "l2") t in
      fields_at level2_fields (codes "l2") t (λ v. Level2Numbers (cache_of v) (truth_at (codes "back") v))
      (λ u at all. record { cache = cache_numbers others u all; back = back_found u found at (holds_if _ b) })
      (holds_if _ h)

  costs : broken_in 1 (needs 9 TopPlace (codes "costs") (Fields cost_fields)) t ≡ None
      → TableAt (codes "costs") t (CostNumbers (costs_of (table_of (get_member (codes "costs") t))))
  unfolding broken_in whole_in
  costs h =
      fields_at cost_fields (codes "costs") t (λ v. CostNumbers (costs_of v)) (λ u at all. cost_numbers u all) (holds_if _ h)

  top_array : (key : List ℕ) (n : ℕ) → broken_in 1 (needs n TopPlace key (Array Table)) t ≡ None
      → fits_if true (Array Table) (get_member key t) ≡ true
  unfolding broken_in whole_in
  top_array key n h = holds_if _ h

  of_domains : (n : ℕ) (key : List ℕ) (needed : Bool) (kind : Kind)
      → broken_in 1
      (record { number = n; since = 1; place = DomainPlace; needed = needed; key = key; kind = kind }) t
      ≡ None
      → all_items (whole_item (record {
        number = n;
        since = 1;
        place = DomainPlace;
        needed = needed;
        key = key;
        kind = kind;
      }))
      (items_at (codes "domain") t) ≡ true
  unfolding broken_in
  of_domains n key needed kind h = all_pass _ 0 (items_at (codes "domain") t) h

  of_segments : (n : ℕ) (key : List ℕ) (kind : Kind) → broken_in 1 (needs n SegmentPlace key kind) t ≡ None
      → all_items (whole_segments (needs n SegmentPlace key kind)) (items_at (codes "domain") t) ≡ true
  unfolding broken_in
  of_segments n key kind h = all_pass _ 0 (items_at (codes "domain") t) h

  of_entries : (n : ℕ) (key : List ℕ) (needed : Bool)
      → broken_in 1
      (record {
        number = n;
        since = 1;
        place = EntryPlace;
        needed = needed;
        key = key;
        kind = One Integer;
      }) t
      ≡ None
      → all_items (whole_item (record {
        number = n;
        since = 1;
        place = EntryPlace;
        needed = needed;
        key = key;
        kind = One Integer;
      }))
      (items_at (codes "schedule") t) ≡ true
  unfolding broken_in
  of_entries n key needed h = all_pass _ 0 (items_at (codes "schedule") t) h

  of_mail : (n : ℕ) (key : List ℕ) → broken_in 1 (needs n MailPlace key (One Integer)) t ≡ None
      → all_items (whole_item (needs n MailPlace key (One Integer))) (items_at (codes "mail") t) ≡ true
  unfolding broken_in
  of_mail n key h = all_pass _ 0 (items_at (codes "mail") t) h

  whole_domains : WholeItems (items_at (codes "domain") t)
  unfolding key_rows
  whole_domains = record {
    colours = of_domains 12 (codes "colours") true (Array Integer) (row 11 colours_row _ refl);
    entry = of_domains 13 (codes "entry") true (One (Within 0 4294967295)) (row 12 entry_row _ refl);
    segment = of_domains 14 (codes "segment") true (SomeTables 16) (row 13 segment_row _ refl);
    page = of_segments 15 (codes "page") (One (Within 0 1048575)) (row 14 page_row _ refl);
    pages = of_segments 16 (codes "pages") (One (Within 1 64)) (row 15 pages_row _ refl);
    lines = of_domains 20 (codes "lines") false (Array Integer) (row 19 lines_row _ refl);
    moments = of_domains 21 (codes "moments") false Pairs (row 20 moments_row _ refl);
    calls = of_calls;
  }

  whole_schedule : WholeEntries (items_at (codes "schedule") t)
  unfolding key_rows
  whole_schedule = record {
    domain = of_entries 23 (codes "domain") true (row 22 slot_domain_row _ refl);
    length = of_entries 24 (codes "length") true (row 23 length_row _ refl);
    pad = of_entries 25 (codes "pad") true (row 24 pad_row _ refl);
    hart = of_entries 31 (codes "hart") false (later_row 4 hart_row _ refl);
  }

  domains : ArrayAt (codes "domain") t (IsTableOf DomainNumbers)
      (map_items domain_in (items_at (codes "domain") t))
  unfolding key_rows fits
  domains = array_at (codes "domain") t (Array Table) (all_items (fits_one Table)) domain_in (IsTableOf DomainNumbers) (λ d h. h)
      (λ ds same h. domains_each ds h (subst WholeItems same whole_domains))
      (top_array (codes "domain") 10 (row 9 (needs 10 TopPlace (codes "domain") (Array Table)) _ refl))

  schedule : ArrayAt (codes "schedule") t (IsTableOf EntryNumbers)
      (map_items entry_in (items_at (codes "schedule") t))
  unfolding key_rows fits
  schedule = array_at (codes "schedule") t (Array Table) (all_items (fits_one Table)) entry_in (IsTableOf EntryNumbers) (λ d h. h)
      (λ ds same h. entries_each ds h (subst WholeEntries same whole_schedule))
      (top_array (codes "schedule") 22 (row 21 (needs 22 TopPlace (codes "schedule") (Array Table)) _ refl))

  mail_fits : broken_in 1 (may_have 32 TopPlace (codes "mail") (Array Table)) t ≡ None
      → fits_if false (Array Table) (get_member (codes "mail") t) ≡ true
  unfolding broken_in whole_in
  mail_fits h = holds_if _ h

  all_whole_mail : WholeMail (items_at (codes "mail") t)
  unfolding key_rows
  all_whole_mail = record {
    from = of_mail 33 (codes "from") (later_row 6 from_row _ refl);
    to = of_mail 34 (codes "to") (later_row 7 to_row _ refl);
  }

  mail : ArrayIfAt (codes "mail") t (IsTableOf MailboxNumbers) (map_items mailbox_in (items_at (codes "mail") t))
  unfolding key_rows fits
  mail = array_if (codes "mail") t (Array Table) (all_items (fits_one Table)) mailbox_in (IsTableOf MailboxNumbers) (λ d h. h)
      (λ ds same h. mail_each ds h (subst WholeMail same all_whole_mail))
      (get_member (codes "mail") t) refl
      (mail_fits (later_row 5 (may_have 32 TopPlace (codes "mail") (Array Table)) _ refl))

  numbers : Numbers t (record_of t)
  unfolding key_rows record_of
  numbers = record {
    version = version (later_row 1 (may_have 28 TopPlace (codes "version") (One (Within 1 2))) _ refl);
    frames = number (codes "frames") 1 (row 0 (needs 1 TopPlace (codes "frames") (One Integer)) _ refl);
    shared = number (codes "shared") 2 (row 1 (needs 2 TopPlace (codes "shared") (One Integer)) _ refl);
    line = number (codes "line") 3 (row 2 (needs 3 TopPlace (codes "line") (One Integer)) _ refl);
    l1i = cache (codes "l1i") 4 (row 3 (needs 4 TopPlace (codes "l1i") (Fields cache_fields)) _ refl);
    l1d = cache (codes "l1d") 5 (row 4 (needs 5 TopPlace (codes "l1d") (Fields cache_fields)) _ refl);
    l2 = level2 (row 5 (needs 6 TopPlace (codes "l2") (Fields level2_fields)) _ refl) (later_row 0 back_row _ refl);
    tlb = cache (codes "tlb") 7 (row 6 (needs 7 TopPlace (codes "tlb") (Fields cache_fields)) _ refl);
    predictor = number (codes "predictor") 8 (row 7 (needs 8 TopPlace (codes "predictor") (One Integer)) _ refl);
    history = history (later_row 3 (may_have 30 TopPlace (codes "history") (One Integer)) _ refl);
    costs = costs (row 8 (needs 9 TopPlace (codes "costs") (Fields cost_fields)) _ refl);
    muldiv = muldiv (later_row 8 (may_have 37 TopPlace (codes "muldiv") (Fields muldiv_fields)) _ refl);
    targets = targets (later_row 9 (may_have 38 TopPlace (codes "targets") (One Integer)) _ refl);
    domains = domains;
    schedule = schedule;
    mail = mail;
  }

-- ---- the image that bytes are

of_whole : (t : Members) (b : Option Broken) → broken_key t ≡ b → IfOk (read_whole t b) (Numbers t)
of_whole t None h = numbers t (rows_whole t h) (later_whole_first t h) (calls_whole t h)
of_whole t (Some b) h = tt

pub numbers_law : NumbersLaw
unfolding image_of
numbers_law bytes t i e h =
    let read : read_table (Some t) ≡ Ok i = subst (λ o. read_table o ≡ Ok i) e h in
    IfOk-at_ok (Numbers t) read (of_whole t (broken_key t) refl)
