-- What holds of each element of a list, after one more.
use Rattle.std.proofs.Common.{◌≡◌, ◌≢◌, ℕ, zero, suc, ◌<◌, List, [], ◌∷◌, ◌++◌, length, Some, inl, inr, refl, sym, ap, subst, ◌∙◌}
use Rattle.std.specs.List.{slice_get}
use Rattle.std.proofs.lemmas.Bool.{cases_eq}
use Rattle.std.proofs.lemmas.Option.{slice_get_within, same_Some}

slice_get-push_same : {A : Type 0} (xs : List A) (y : A) → slice_get (xs ++ y ∷ []) (length xs) ≡ Some y
slice_get-push_same [] y = refl
slice_get-push_same (x ∷ xs) y = slice_get-push_same xs y

slice_get-push_other : {A : Type 0} (xs : List A) (j : ℕ) (y : A) → j ≢ length xs
    → slice_get (xs ++ y ∷ []) j ≡ slice_get xs j
slice_get-push_other [] zero y h = absurd (h refl)
slice_get-push_other [] (suc j) y h = refl
slice_get-push_other (x ∷ xs) zero y h = refl
slice_get-push_other (x ∷ xs) (suc j) y h = slice_get-push_other xs j y (λ e. h (ap suc e))

-- P held of each, Q holds of the new one, and of each other as P held of it
pub each_push : {A : Type 0} (P Q : ℕ → A → Type 0) (xs : List A) (y : A) → Q (length xs) y
    → ((j : ℕ) (x : A) → j < length xs → P j x → Q j x)
    → ((j : ℕ) (x : A) → slice_get xs j ≡ Some x → P j x)
    → (j : ℕ) (x : A) → slice_get (xs ++ y ∷ []) j ≡ Some x → Q j x
each_push P Q xs y new other old j x got =
    elim (cases_eq j (length xs)) [
      | inl same ↦
          let last : slice_get (xs ++ y ∷ []) (length xs) ≡ Some x = subst (λ (n : ℕ). slice_get (xs ++ y ∷ []) n ≡ Some x) same got in
          let is : y ≡ x = same_Some y x (sym (slice_get-push_same xs y) ∙ last) in
          subst (λ (n : ℕ). Q n x) (sym same) (subst (Q (length xs)) is new)
      | inr apart ↦
          let before : slice_get xs j ≡ Some x = sym (slice_get-push_other xs j y apart) ∙ got in
          other j x (slice_get_within xs j x before) (old j x before)
    ]
