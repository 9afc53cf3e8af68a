-- Tables that are made key by key, and what is found in them.
use Rattle.std.proofs.Common.{◌≡◌, ℕ, Bool, true, false, List, [], ◌∷◌, Option, Some, None, Ordering, Less, Equal, Greater, nat_cmp, is_eq, String, Global, string_bytes, refl, sym, ap, subst, ◌∙◌, true≢false}
use Rattle.std.specs.Cmp.Lexicographic.{slice_cmp}
use Rattle.std.specs.String.{string_cmp}
use Rattle.std.specs.Ordering.{match_ordering}
use Rattle.std.specs.BTreeMap.{insert_entry}
use Rattle.std.proofs.lemmas.Bool.{and_parts}
use Rattle.std.proofs.lemmas.Map.Lookups.{exact_bytes}
use Rattle.toml.specs.Data.{Data, Members, no_members, member, get_member, same_key}
use Rattle.toml.specs.View.{view, members_view}
use Rattle.toml.specs.declared.value.Value.{Value}
use Rattle.image_text.specs.Unknown.{all_keys}
use Rattle.image_writing.specs.Data.{put_member, put_if}

abbrev Entry : Type 0
Entry = String Global × Value

-- ---- what an insert makes

moved : (o : Ordering) (a b c : List Entry)
    → members_view (match_ordering o a b c) ≡ match_ordering o (members_view a) (members_view b) (members_view c)
moved Less a b c = refl
moved Equal a b c = refl
moved Greater a b c = refl

pub inserted_view : (k : String Global) (v : Value) (es : List Entry)
    → members_view (insert_entry string_cmp es k v) ≡ put_member (string_bytes k) (view v) (members_view es)
inserted_view k v [] = refl
inserted_view k v (e ∷ es) =
    moved (string_cmp k e.0) ((k, v) ∷ e ∷ es) ((e.0, v) ∷ es) (e ∷ insert_entry string_cmp es k v)
    ∙ ap
    (λ ms.
    match_ordering (string_cmp k e.0) (members_view ((k, v) ∷ e ∷ es)) (members_view ((e.0, v) ∷ es))
    (member (string_bytes e.0) (view e.1) ms)) (inserted_view k v es)

-- ---- other keys

module _ (key l : List ℕ) (d : Data) (other : same_key key l ≡ false) where
  -- a key that is another than the one at which a value is put
  skipped : (o : Ordering) (rest : Option Data) (x : Data) → slice_cmp nat_cmp key l ≡ o
      → match_ordering o rest (Some x) rest ≡ rest
  skipped Less rest x e = refl
  skipped Equal rest x e = absurd (true≢false (sym (ap is_eq e) ∙ other))
  skipped Greater rest x e = refl

  put_at : (o : Ordering) (m : List ℕ) (e : Data) (ms : Members) → slice_cmp nat_cmp l m ≡ o
      → get_member key (put_member l d ms) ≡ get_member key ms
      → get_member key (match_ordering o (member l d (member m e ms)) (member m d ms) (member m e (put_member l d ms)))
      ≡ get_member key (member m e ms)
  put_at Less m e ms is rest = skipped (slice_cmp nat_cmp key l) (get_member key (member m e ms)) d refl
  put_at Equal m e ms is rest =
      let away : (x : Data)
      → match_ordering (slice_cmp nat_cmp key m) (get_member key ms) (Some x) (get_member key ms) ≡ get_member key ms
      = λ x. subst
      (λ (k : List ℕ). match_ordering (slice_cmp nat_cmp key k) (get_member key ms) (Some x) (get_member key ms) ≡ get_member key ms)
      (exact_bytes l m is) (skipped (slice_cmp nat_cmp key l) (get_member key ms) x refl) in
      away d ∙ sym (away e)
  put_at Greater m e ms is rest =
      ap (λ found. match_ordering (slice_cmp nat_cmp key m) found (Some e) found) rest

  put_other : (ms : Members) → get_member key (put_member l d ms) ≡ get_member key ms
  put_other no_members = skipped (slice_cmp nat_cmp key l) None d refl
  put_other (member m e ms) = put_at (slice_cmp nat_cmp l m) m e ms refl (put_other ms)

pub if_other : (key l : List ℕ) → same_key key l ≡ false → (o : Option Data) (ms : Members)
    → get_member key (put_if l o ms) ≡ get_member key ms
if_other key l other None ms = refl
if_other key l other (Some d) ms = put_other key l d other ms

-- ---- the key itself

module _ (key : List ℕ) (d : Data) (same : slice_cmp nat_cmp key key ≡ Equal) where
  there_at : (o : Ordering) (m : List ℕ) (e : Data) (ms : Members) → slice_cmp nat_cmp key m ≡ o
      → get_member key (put_member key d ms) ≡ Some d
      → get_member key (match_ordering o (member key d (member m e ms)) (member m d ms) (member m e (put_member key d ms)))
      ≡ Some d
  there_at Less m e ms is rest = rw same refl
  there_at Equal m e ms is rest = rw is refl
  there_at Greater m e ms is rest = rw is rest

  put_there : (ms : Members) → get_member key (put_member key d ms) ≡ Some d
  put_there no_members = rw same refl
  put_there (member m e ms) = there_at (slice_cmp nat_cmp key m) m e ms refl (put_there ms)

pub if_there : (key : List ℕ) → slice_cmp nat_cmp key key ≡ Equal → (o : Option Data) (ms : Members)
    → get_member key ms ≡ None → get_member key (put_if key o ms) ≡ o
if_there key same None ms none = none
if_there key same (Some d) ms none = put_there key d same ms

-- ---- which keys there are

module _ (p : List ℕ → Bool) (l : List ℕ) (d : Data) (known : p l ≡ true) where
  keys_at : (o : Ordering) (m : List ℕ) (e : Data) (ms : Members) → slice_cmp nat_cmp l m ≡ o
      → all_keys p (member m e ms) ≡ true → all_keys p (put_member l d ms) ≡ true
      → all_keys p (match_ordering o (member l d (member m e ms)) (member m d ms) (member m e (put_member l d ms))) ≡ true
  keys_at Less m e ms is all rest = rw (known, all) refl
  keys_at Equal m e ms is all rest = all
  keys_at Greater m e ms is all rest = rw ((and_parts (p m) (all_keys p ms) all).0, rest) refl

  put_keys : (ms : Members) → all_keys p ms ≡ true → all_keys p (put_member l d ms) ≡ true
  put_keys no_members all = rw known refl
  put_keys (member m e ms) all =
      keys_at (slice_cmp nat_cmp l m) m e ms refl all (put_keys ms (and_parts (p m) (all_keys p ms) all).1)

pub if_keys : (p : List ℕ → Bool) (l : List ℕ) → p l ≡ true → (o : Option Data) (ms : Members)
    → all_keys p ms ≡ true → all_keys p (put_if l o ms) ≡ true
if_keys p l known None ms all = all
if_keys p l known (Some d) ms all = put_keys p l d known ms all
