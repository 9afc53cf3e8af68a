-- Where no row is broken, each row is whole.
use Rattle.std.proofs.Common.{◌≡◌, ℕ, zero, suc, ◌+◌, ◌≤◌, nat_le, Bool, true, false, if◌then◌else◌, List, [], ◌∷◌, take, drop, codes, Option, Some, None, refl, sym, subst, ◌⊎◌, inl, inr, arith}
use Rattle.std.proofs.lemmas.Bool.{cases_Bool}
use Rattle.std.proofs.lemmas.Bool.Decides.{nat_tests}
use Rattle.std.proofs.lemmas.Option.{none-some}
use Rattle.toml.specs.Data.{Data, Items, no_items, item, Members, get_member, as_integer}
use Rattle.image_text.specs.Rows.{Row, within, all_items, first_failing, broken_at, broken_in, Broken, first_or, first_broken, key_rows, version_from, version_of}
use Rattle.image_text.specs.Unknown.{all_known, or_broken, or_unknown, broken_key}

-- ---- items

record Passed (test : Bool) (rest : Option ℕ) : Type 0 where
  holds : test ≡ true
  later : rest ≡ None

passed : (test : Bool) (n : ℕ) (rest : Option ℕ) → (if test then rest else Some n) ≡ None → Passed test rest
passed true n rest h = record { holds = refl; later = h }
passed false n rest h = absurd (none-some n (sym h))

pub all_pass : (test : Data → Bool) (n : ℕ) (ds : Items) → first_failing test n ds ≡ None
    → all_items test ds ≡ true
all_pass test n no_items h = refl
all_pass test n (item d ds) h =
    let here = passed (test d) n _ h in
    rw (here.holds, all_pass test (n + 1) ds here.later) refl

pub holds_if : (test : Bool) → (if◌then◌else◌ {A = Option ℕ} test None (Some 0)) ≡ None → test ≡ true
holds_if true h = refl
holds_if false h = absurd (none-some 0 (sym h))

-- ---- rows

record NoneBroken (o : Option ℕ) (rest : Option Broken) : Type 0 where
  first : o ≡ None
  later : rest ≡ None

none_broken : (row : ℕ) (o : Option ℕ) (rest : Option Broken) → first_or row o rest ≡ None → NoneBroken o rest
none_broken row None rest h = record { first = refl; later = h }
none_broken row (Some found) rest h = absurd (none-some _ (sym h))

pub whole_from : (version : ℕ) (n : ℕ) (rows : List Row) (t : Members) → first_broken version rows t ≡ None
    → first_broken version (drop n rows) t ≡ None
unfolding first_broken
whole_from version zero rows t h = h
whole_from version (suc n) [] t h = h
whole_from version (suc n) (r ∷ rows) t h = whole_from version n rows t (none_broken r.number _ _ h).later

pub first_whole : (version : ℕ) (r : Row) (rows : List Row) (t : Members)
    → first_broken version (r ∷ rows) t ≡ None → broken_in version r t ≡ None
unfolding first_broken
first_whole version r rows t h = (none_broken r.number _ _ h).first

no_first : (first rest : Option Broken) → or_broken first rest ≡ None → first ≡ None
no_first None rest h = refl
no_first (Some b) rest h = absurd (none-some b (sym h))

-- ---- versions

IsVersion : ℕ → Type 0
IsVersion v = (v ≡ 1) ⊎ (v ≡ 2)

chosen : (first : Bool) → IsVersion (if first then 1 else 2)
unfolding IsVersion
chosen true = inl refl
chosen false = inr refl

versions_from : (o : Option Data) → IsVersion (version_from o)
unfolding IsVersion
versions_from None = inl refl
versions_from (Some d) = chosen (within 1 1 (as_integer d))

pub versions : (t : Members) → (version_of t ≡ 1) ⊎ (version_of t ≡ 2)
unfolding IsVersion
versions t = versions_from (get_member (codes "version") t)

version_some : (t : Members) → 1 ≤ version_of t
version_some t = elim (versions t) [
  | inl first ↦ omega (arith, first)
  | inr second ↦ omega (arith, second)
]

-- a row that is whole in a version is whole in the first, which may not have it
whole_first : (version : ℕ) (r : Row) (t : Members) → 1 ≤ version → broken_in version r t ≡ None
    → broken_in 1 r t ≡ None
unfolding broken_in
whole_first version r t some h = elim (cases_Bool (nat_le r.since 1)) [
  | inl early ↦
      let also : nat_le r.since version ≡ true = grind (arith, nat_tests, early, some) in
      let P : Bool → Type 0 = λ b. (if b then broken_at r.place r t else None) ≡ None in
      subst P (sym early) (subst P also h)
  | inr later ↦ rw later refl
]

rows_first : (version : ℕ) (rows : List Row) (t : Members) → 1 ≤ version → first_broken version rows t ≡ None
    → first_broken 1 rows t ≡ None
unfolding first_broken
rows_first version [] t some h = refl
rows_first version (r ∷ rows) t some h =
    let parts = none_broken r.number _ _ h in
    rw (whole_first version r t some parts.first) (rows_first version rows t some parts.later)

-- ---- the rows of the table

pub rows_whole : (t : Members) → broken_key t ≡ None → first_broken 1 (take 25 key_rows) t ≡ None
unfolding broken_key
rows_whole t h = rows_first (version_of t) (take 25 key_rows) t (version_some t) (no_first _ _ h)

no_later : (first rest : Option Broken) → or_broken first rest ≡ None → rest ≡ None
no_later None rest h = h
no_later (Some b) rest h = absurd (none-some b (sym h))

all_known_then : (known : Bool) (rest : Option Broken) → or_unknown known rest ≡ None → rest ≡ None
all_known_then true rest h = h
all_known_then false rest h = absurd (none-some _ (sym h))

known_then : (known : Bool) (rest : Option Broken) → or_unknown known rest ≡ None → known ≡ true
known_then true rest h = refl
known_then false rest h = absurd (none-some _ (sym h))

-- in the version of the table
pub later_whole : (t : Members) → broken_key t ≡ None
    → first_broken (version_of t) (drop 25 key_rows) t ≡ None
unfolding broken_key
later_whole t h = all_known_then _ _ (no_later _ _ h)

pub later_whole_first : (t : Members) → broken_key t ≡ None → first_broken 1 (drop 25 key_rows) t ≡ None
later_whole_first t h = rows_first (version_of t) (drop 25 key_rows) t (version_some t) (later_whole t h)

pub keys_known : (t : Members) → broken_key t ≡ None → all_known (version_of t) key_rows t ≡ true
unfolding broken_key
keys_known t h = known_then _ _ (no_later _ _ h)
