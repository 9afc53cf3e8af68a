-- Arrays that are made of lists, item by item.
use Rattle.std.proofs.Common.{◌≡◌, ℕ, suc, ◌+◌, ◌<◌, ◌≤◌, Bool, true, List, [], ◌∷◌, length, map, get_or, take, ◌++◌, None, refl, sym, ap, ap₂, ◌∙◌, arith}
use Rattle.std.proofs.lemmas.List.{map_push, map_more}
use Rattle.toml.specs.Data.{Data, depth, items_depth}
use Rattle.toml.specs.declared.value.Value.{Value}
use Rattle.toml.specs.View.{items_of, view}
use Rattle.image_text.specs.Rows.{all_items, count_items, first_failing}
use Rattle.image_text.specs.Unknown.{no_key, no_key_in}
use Rattle.image_text.specs.Record.{map_items}

-- it holds of each item
abbrev pub Each : {A : Type 0} → (A → Type 0) → List A → Type 0
Each P [] = Unit {0}
Each P (x ∷ xs) = P x × Each P xs

pub each_from : {A : Type 0} (P : A → Type 0) (none : A) (xs : List A)
    → ((k : ℕ) → k < length xs → P (get_or xs k none)) → Each P xs
each_from P none [] all = tt
each_from P none (x ∷ xs) all = (all 0 (omega arith), each_from P none xs (λ k l. all (suc k) (omega (arith, l))))

abbrev pub Any : {A : Type 0} → A → Type 0
Any x = Unit {0}

pub any_each : {A : Type 0} (xs : List A) → Each Any xs
any_each [] = tt
any_each (x ∷ xs) = (tt, any_each xs)

module _ {A : Type 0} (P : A → Type 0) (made : A → Data) where
  -- the items are read as the list
  pub read_all : (read : Data → A) → ((x : A) → P x → read (made x) ≡ x) → (xs : List A) → Each P xs
      → map_items read (items_of (map made xs)) ≡ xs
  read_all read same [] each = refl
  read_all read same (x ∷ xs) each =
      ap₂ (λ (y : A) (ys : List A). y ∷ ys) (same x each.0) (read_all read same xs each.1)

  pub all_made : (p : Data → Bool) → ((x : A) → P x → p (made x) ≡ true) → (xs : List A) → Each P xs
      → all_items p (items_of (map made xs)) ≡ true
  all_made p pass [] each = refl
  all_made p pass (x ∷ xs) each = rw (pass x each.0, all_made p pass xs each.1) refl

  pub none_failing : (p : Data → Bool) → ((x : A) → P x → p (made x) ≡ true) → (n : ℕ) (xs : List A) → Each P xs
      → first_failing p n (items_of (map made xs)) ≡ None
  none_failing p pass n [] each = refl
  none_failing p pass n (x ∷ xs) each = rw (pass x each.0) (none_failing p pass (n + 1) xs each.1)

  pub no_keys : ((x : A) → no_key (made x) ≡ true) → (xs : List A) → no_key_in (items_of (map made xs)) ≡ true
  no_keys none [] = refl
  no_keys none (x ∷ xs) = rw (none x, no_keys none xs) refl

  pub counted : (xs : List A) → count_items (items_of (map made xs)) ≡ length xs
  counted [] = refl
  counted (x ∷ xs) = let rest = counted xs in omega (arith, rest)

  pub shallow : (n : ℕ) → ((x : A) → depth (made x) ≤ n) → (xs : List A) → items_depth (items_of (map made xs)) ≤ n
  shallow n each [] = omega arith
  shallow n each (x ∷ xs) =
      let here = each x in
      let rest = shallow n each xs in
      omega (arith, here, rest)

-- values so far, and one more
pub one_more : {A : Type 0} (says : A → Data) (xs : List A) (k : ℕ) (x : A) (old new : List Value) (v : Value)
    → k < length xs → map view old ≡ map says (take k xs)
    → view v ≡ says (get_or xs k x) → new ≡ old ++ v ∷ [] → map view new ≡ map says (take (k + 1) xs)
one_more says xs k x old new v below so_far here pushed =
    ap (map view) pushed ∙ map_push view old v ∙ ap₂ (λ ys y. ys ++ y ∷ []) so_far here
    ∙ sym (map_more says xs k x below)
