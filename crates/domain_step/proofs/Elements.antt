-- What holds of each element of a list, after a write, and of copies.
use Rattle.std.proofs.Common.{◌≡◌, ◌≢◌, ℕ, zero, suc, ◌<◌, List, [], ◌∷◌, length, replicate, Some, inl, inr, refl, sym, ap, subst, ◌∙◌, arith}
use Rattle.std.specs.List.{slice_get}
use Rattle.std.proofs.Math.ListN.{set}
use Rattle.std.proofs.lemmas.Bool.{cases_eq}
use Rattle.std.proofs.lemmas.List.{get_or-replicate, length-replicate}
use Rattle.std.proofs.lemmas.Option.{slice_get_within, get_or_from_slice_get, same_Some}

slice_get-set_same : {A : Type 0} (xs : List A) (i : ℕ) (y : A) → i < length xs
    → slice_get (set xs i y) i ≡ Some y
slice_get-set_same [] i y h = absurd (omega arith)
slice_get-set_same (x ∷ xs) zero y h = refl
slice_get-set_same (x ∷ xs) (suc i) y h = slice_get-set_same xs i y (omega arith)

slice_get-set_other : {A : Type 0} (xs : List A) (i j : ℕ) (y : A) → j ≢ i
    → slice_get (set xs i y) j ≡ slice_get xs j
slice_get-set_other [] i j y h = refl
slice_get-set_other (x ∷ xs) zero zero y h = absurd (h refl)
slice_get-set_other (x ∷ xs) zero (suc j) y h = refl
slice_get-set_other (x ∷ xs) (suc i) zero y h = refl
slice_get-set_other (x ∷ xs) (suc i) (suc j) y h = slice_get-set_other xs i j y (λ e. h (ap suc e))

-- Q holds of the new one, and of each other that was there
pub each_set_kept : {A : Type 0} (Q : ℕ → A → Type 0) (xs : List A) (i : ℕ) (y : A) → i < length xs → Q i y
    → ((j : ℕ) (x : A) → j ≢ i → slice_get xs j ≡ Some x → Q j x)
    → (j : ℕ) (x : A) → slice_get (set xs i y) j ≡ Some x → Q j x
each_set_kept Q xs i y within new other j x got =
    elim (cases_eq j i) [
      | inl same ↦
          let at_i : slice_get (set xs i y) i ≡ Some x = subst (λ (n : ℕ). slice_get (set xs i y) n ≡ Some x) same got in
          let is : y ≡ x = same_Some y x (sym (slice_get-set_same xs i y within) ∙ at_i) in
          subst (λ (n : ℕ). Q n x) (sym same) (subst (Q i) is new)
      | inr apart ↦ other j x apart (sym (slice_get-set_other xs i j y apart) ∙ got)
    ]

-- P held of each, Q holds of the new one, and of each other as P held of it
pub each_set : {A : Type 0} (P Q : ℕ → A → Type 0) (xs : List A) (i : ℕ) (y : A) → i < length xs → Q i y
    → ((j : ℕ) (x : A) → j ≢ i → P j x → Q j x)
    → ((j : ℕ) (x : A) → slice_get xs j ≡ Some x → P j x)
    → (j : ℕ) (x : A) → slice_get (set xs i y) j ≡ Some x → Q j x
each_set P Q xs i y within new other old j x got =
    each_set_kept Q xs i y within new (λ n z apart was. other n z apart (old n z was)) j x got

-- each of many copies
pub each_replicate : {A : Type 0} (P : A → Type 0) (n : ℕ) (y : A) → P y → (j : ℕ) (x : A)
    → slice_get (replicate n y) j ≡ Some x → P x
each_replicate P n y holds j x got =
    let within : j < n = omega (arith, slice_get_within (replicate n y) j x got, length-replicate n y) in
    subst P (sym (get_or-replicate n j y x within) ∙ get_or_from_slice_get (replicate n y) j x x got) holds
