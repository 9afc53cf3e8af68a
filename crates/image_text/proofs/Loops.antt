-- Loops that go through a list, mostly up to the first item that decides: what is left decides as the whole does.
use Rattle.std.proofs.Common.{◌≡◌, ◌∙◌, ℕ, ◌+◌, ◌<◌, ◌≤◌, Bool, true, false, List, [], ◌∷◌, ◌++◌, Option, Some, None, length, map, drop, get_or, sym, ap}
use Rattle.std.specs.Prelude.{◌&&◌, ◌||◌, if◌then◌else◌}
use Rattle.std.proofs.lemmas.List.{append_assoc, append-nil, drop_all, drop_more, map_push}
use Rattle.toml.specs.declared.value.Value.{Value}
use Rattle.toml.specs.Data.{Data}
use Rattle.toml.specs.View.{view, items_view}
use Rattle.image_text.specs.Rows.{first_failing}
use Rattle.image_text.specs.Record.{map_items}

from_here : {A : Type 0} (xs : List A) (k : ℕ) (x d : A) → k < length xs → x ≡ get_or xs k d
    → drop k xs ≡ x ∷ drop (k + 1) xs
from_here xs k x d below is = drop_more xs k d below ∙ ap (λ y. y ∷ drop (k + 1) xs) (sym is)

module _ {A : Type 0} (f : List A → Bool) (q : A → Bool) (xs : List A) (k : ℕ) (x d : A)
    (below : k < length xs) (is : x ≡ get_or xs k d) where
  here : drop k xs ≡ x ∷ drop (k + 1) xs
  here = from_here xs k x d below is

  -- of all items something is asked
  module _ (step : (y : A) (ys : List A) → f (y ∷ ys) ≡ (q y && f ys)) where
    whole : f (drop k xs) ≡ (q x && f (drop (k + 1) xs))
    whole = ap f here ∙ step x (drop (k + 1) xs)

    pub holds : true ≡ q x → f (drop k xs) ≡ f xs → f (drop (k + 1) xs) ≡ f xs
    holds so left = sym (whole ∙ ap (λ b. b && f (drop (k + 1) xs)) (sym so)) ∙ left

    pub fails : false ≡ q x → f (drop k xs) ≡ f xs → false ≡ f xs
    fails not_so left = sym (whole ∙ ap (λ b. b && f (drop (k + 1) xs)) (sym not_so)) ∙ left

  -- of one
  module _ (step : (y : A) (ys : List A) → f (y ∷ ys) ≡ (q y || f ys)) where
    either : f (drop k xs) ≡ (q x || f (drop (k + 1) xs))
    either = ap f here ∙ step x (drop (k + 1) xs)

    pub other : false ≡ q x → f (drop k xs) ≡ f xs → f (drop (k + 1) xs) ≡ f xs
    other not_so left = sym (either ∙ ap (λ b. b || f (drop (k + 1) xs)) (sym not_so)) ∙ left

    pub found : true ≡ q x → f (drop k xs) ≡ f xs → true ≡ f xs
    found so left = sym (either ∙ ap (λ b. b || f (drop (k + 1) xs)) (sym so)) ∙ left

-- no item is left
pub ended : {A : Type 0} (f : List A → Bool) (b : Bool) (xs : List A) (k : ℕ) → length xs ≤ k → f [] ≡ b
    → f (drop k xs) ≡ f xs → b ≡ f xs
ended f b xs k past none left = sym (ap f (drop_all k xs past) ∙ none) ∙ left

-- ---- the first value that fails

module _ (p : Data → Bool) (vs : List Value) (k : ℕ) (whole : Option ℕ) (left : first_failing p k (items_view (drop k vs)) ≡ whole) where
  module _ (v d : Value) (below : k < length vs) (is : v ≡ get_or vs k d) where
    at : first_failing p k (items_view (drop k vs))
        ≡ (if p (view v) then first_failing p (k + 1) (items_view (drop (k + 1) vs)) else Some k)
    at = ap (λ ws. first_failing p k (items_view ws)) (from_here vs k v d below is)

    pub passed : true ≡ p (view v) → first_failing p (k + 1) (items_view (drop (k + 1) vs)) ≡ whole
    passed so = sym (at ∙ ap (λ (b : Bool). if b then first_failing p (k + 1) (items_view (drop (k + 1) vs)) else Some k) (sym so)) ∙ left

    pub failed : false ≡ p (view v) → Some k ≡ whole
    failed not_so =
        sym (at
        ∙ ap (λ (b : Bool). if b then first_failing p (k + 1) (items_view (drop (k + 1) vs)) else Some k)
        (sym not_so)) ∙ left

  pub none_failed : length vs ≤ k → None ≡ whole
  none_failed past = sym (ap (λ ws. first_failing p k (items_view ws)) (drop_all k vs past)) ∙ left

-- ---- what is read of the values: so far, and of those that are left

module _ {A P : Type 0} (model : A → P) (part : Data → P) (old : List A) (vs : List Value) (k : ℕ) (all : List P)
    (left : map model old ++ map_items part (items_view (drop k vs)) ≡ all) where
  pub one_read : (new : List A) (x : A) (v d : Value) → k < length vs → v ≡ get_or vs k d
      → new ≡ old ++ x ∷ [] → model x ≡ part (view v)
      → map model new ++ map_items part (items_view (drop (k + 1) vs)) ≡ all
  one_read new x v d below is pushed same =
      let rest = map_items part (items_view (drop (k + 1) vs)) in
      ap (λ xs. map model xs ++ rest) pushed
      ∙ ap (λ ys. ys ++ rest) (map_push model old x)
      ∙ append_assoc (map model old) (model x ∷ []) rest
      ∙ ap (λ y. map model old ++ y ∷ rest) same
      ∙ sym (ap (λ ws. map model old ++ map_items part (items_view ws)) (from_here vs k v d below is))
      ∙ left

  pub all_read : length vs ≤ k → map model old ≡ all
  all_read past =
      sym (ap (λ ws. map model old ++ map_items part (items_view ws)) (drop_all k vs past) ∙ append-nil (map model old)) ∙ left
