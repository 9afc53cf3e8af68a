-- The calls of a domain: where the first version is read, no domain says any, since it doesn't know their key.
use Rattle.std.proofs.Common.{◌≡◌, ℕ, Ordering, Less, Equal, Greater, nat_cmp, Bool, true, false, List, drop, codes, Option, Some, None, IfOk, refl, sym, ap, subst, ◌∙◌, inl, inr}
use Rattle.std.specs.Cmp.Lexicographic.{slice_cmp}
use Rattle.std.specs.Ordering.{match_ordering}
use Rattle.std.proofs.lemmas.Bool.{and_parts, true≢false}
use Rattle.std.proofs.lemmas.Result.{IfOk-at_ok}
use Rattle.std.proofs.lemmas.Map.Lookups.{exact_bytes}
use Rattle.toml.specs.Data.{Data, Items, no_items, item, Members, no_members, member, get_member}
use Rattle.image_text.specs.declared.kinds.Simple.TheVariants.{Integer}
use Rattle.image_text.specs.declared.kinds.Place.TheVariants.{Domain as DomainPlace}
use Rattle.image_text.specs.Rows.{Row, Array, may_have_2, all_items, whole_in, whole_item, items_at, broken_in, Broken, first_broken, key_rows, version_of}
use Rattle.image_text.specs.Unknown.{all_keys, is_known, known_table, known_item, known_domain, all_known, broken_key}
use Rattle.image_record.specs.Record.{Raw, no_raw_domain, raw_domain}
use Rattle.image_text.specs.Record.{domain_of, domain_in, record_of, document, read_whole, read_table, image_of, FirstVersionLaw}
use Rattle.image_text.proofs.WholeRows.{all_pass, first_whole, whole_from, later_whole, keys_known, versions}
use Rattle.image_text.proofs.Ranges.{passing_at}

-- ---- a key that isn't known

module _ (p : List ℕ → Bool) (key l : List ℕ) (x : Data) (ms : Members) where
  not_here : (o : Ordering) → slice_cmp nat_cmp key l ≡ o → p key ≡ false → p l ≡ true
      → get_member key ms ≡ None
      → match_ordering o (get_member key ms) (Some x) (get_member key ms) ≡ None
  not_here Less e unknown here rest = rest
  not_here Equal e unknown here rest = absurd (true≢false (sym here ∙ ap p (sym (exact_bytes key l e)) ∙ unknown))
  not_here Greater e unknown here rest = rest

missing : (p : List ℕ → Bool) (key : List ℕ) (t : Members) → p key ≡ false → all_keys p t ≡ true
    → get_member key t ≡ None
missing p key no_members unknown h = refl
missing p key (member l x ms) unknown h =
    let both = and_parts (p l) (all_keys p ms) h in
    not_here p key l x ms (slice_cmp nat_cmp key l) refl unknown both.0 (missing p key ms unknown both.1)

-- ---- the first version

abbrev pub calls_row : Row
calls_row = may_have_2 29 DomainPlace (codes "calls") (Array Integer)

unknown_calls : is_known 1 DomainPlace key_rows (codes "calls") ≡ false
unfolding key_rows
unknown_calls = refl

no_calls_in : (t : Members) → known_table 1 DomainPlace key_rows t ≡ true
    → get_member (codes "calls") t ≡ None
unfolding known_table
no_calls_in t h = missing (is_known 1 DomainPlace key_rows) (codes "calls") t unknown_calls (and_parts _ _ h).0

whole_here : (d : Data) → known_domain 1 key_rows d ≡ true → whole_item calls_row d ≡ true
unfolding known_domain known_item whole_item whole_in
whole_here (Data.table u) h = rw (no_calls_in u (and_parts _ _ h).0) refl
whole_here (Data.array ds) h = refl
whole_here (Data.string s) h = refl
whole_here (Data.integer z) h = refl
whole_here (Data.float x) h = refl
whole_here (Data.boolean b) h = refl
whole_here (Data.datetime t) h = refl

none_here : (d : Data) → known_domain 1 key_rows d ≡ true → (domain_in d).calls ≡ None
unfolding known_domain known_item domain_of
none_here (Data.table u) h = rw (no_calls_in u (and_parts _ _ h).0) refl
none_here (Data.array ds) h = refl
none_here (Data.string s) h = refl
none_here (Data.integer z) h = refl
none_here (Data.float x) h = refl
none_here (Data.boolean b) h = refl
none_here (Data.datetime t) h = refl

all_known_here : (t : Members) → all_known 1 key_rows t ≡ true
    → all_items (known_domain 1 key_rows) (items_at (codes "domain") t) ≡ true
unfolding all_known
all_known_here t h = (and_parts _ _ (and_parts _ _ (and_parts _ _ h).0).0).1

known_first : (t : Members) → broken_key t ≡ None → version_of t ≡ 1
    → all_items (known_domain 1 key_rows) (items_at (codes "domain") t) ≡ true
known_first t h first = all_known_here t (subst (λ v. all_known v key_rows t ≡ true) first (keys_known t h))

-- ---- the row of calls is whole, in each version

items_too : (p q : Data → Bool) → ((d : Data) → p d ≡ true → q d ≡ true) → (ds : Items)
    → all_items p ds ≡ true → all_items q ds ≡ true
items_too p q from no_items h = refl
items_too p q from (item d ds) h =
    let both = and_parts (p d) (all_items p ds) h in
    rw (from d both.0) (items_too p q from ds both.1)

whole_second : (t : Members) → broken_in 2 calls_row t ≡ None
    → all_items (whole_item calls_row) (items_at (codes "domain") t) ≡ true
unfolding broken_in
whole_second t h = all_pass _ 0 (items_at (codes "domain") t) h

row_second : (t : Members) → first_broken 2 (drop 25 key_rows) t ≡ None → broken_in 2 calls_row t ≡ None
unfolding key_rows
row_second t h = first_whole 2 calls_row _ t (whole_from 2 2 _ t h)

pub calls_whole : (t : Members) → broken_key t ≡ None
    → all_items (whole_item calls_row) (items_at (codes "domain") t) ≡ true
calls_whole t h = elim (versions t) [
  | inl first ↦ items_too (known_domain 1 key_rows) (whole_item calls_row) whole_here (items_at (codes "domain") t) (known_first t h first)
  | inr second ↦ whole_second t (row_second t (subst (λ v. first_broken v (drop 25 key_rows) t ≡ None) second (later_whole t h)))
]

-- ---- the image that bytes are

abbrev NoCalls : Raw → Type 0
NoCalls i = i.version ≡ 1 → (d : ℕ) → (raw_domain i.domains d).calls ≡ None

of_record : (t : Members) → broken_key t ≡ None → NoCalls (record_of t)
unfolding record_of
of_record t h first d =
    passing_at (known_domain 1 key_rows) domain_in (λ o. o.calls ≡ None) no_raw_domain refl none_here
    (items_at (codes "domain") t) (known_first t h first) d

of_whole : (t : Members) (b : Option Broken) → broken_key t ≡ b → IfOk (read_whole t b) NoCalls
of_whole t None h = of_record t h
of_whole t (Some b) h = tt

of_table : (o : Option Members) → IfOk (read_table o) NoCalls
of_table None = tt
of_table (Some t) = of_whole t (broken_key t) refl

pub first_version_law : FirstVersionLaw
unfolding image_of
first_version_law bytes i h = IfOk-at_ok NoCalls h (of_table (document bytes))
