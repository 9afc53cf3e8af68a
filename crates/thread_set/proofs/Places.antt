-- The first element of a list that passes a test.
use Rattle.std.proofs.Common.{arith, ◌≡◌, ◌∙◌, sym, subst, ap, refl, ℕ, ◌<◌, ◌≤◌, ◌⊎◌, inl, inr, ⊎_elim, Bool, true, false, List, [], ◌∷◌, ◌++◌, length, get_or, length-append}
use Rattle.std.specs.Prelude.{Some, None, position}
use Rattle.std.specs.List.{position_or_len}
use Rattle.std.proofs.Math.ListN.{get_or-append}
use Rattle.std.proofs.Math.Seq.{get_or-append_seam}
use Rattle.std.proofs.lemmas.Bool.Decides.{nat_tests}
use Rattle.std.proofs.lemmas.Bool.{cases_lt}
use Rattle.std.proofs.lemmas.List.Sums.{position_or_len_is, fails_before_first, passes_at_first}

-- element i is the first that passes
pub record IsFirst {X : Type 0} (p : X → Bool) (xs : List X) (d : X) (i : ℕ) : Type 0 where
  pub within : i < length xs
  pub passes : p (get_or xs i d) ≡ true
  pub before : (k : ℕ) → k < i → p (get_or xs k d) ≡ false

-- none passes
pub record IsNowhere {X : Type 0} (p : X → Bool) (xs : List X) (d : X) : Type 0 where
  pub fails : (k : ℕ) → k < length xs → p (get_or xs k d) ≡ false

pub position-first : {X : Type 0} (p : X → Bool) (xs : List X) (d : X) (i : ℕ) → IsFirst p xs d i
    → position p xs ≡ Some i
position-first {X} p xs d i first =
    let is : position_or_len p xs ≡ i = position_or_len_is p xs i d (omega (arith, first.within)) first.before (λ _. first.passes) in
    let within : i < length xs = first.within in
    grind (arith, nat_tests)

pub position-nowhere : {X : Type 0} (p : X → Bool) (xs : List X) (d : X) → IsNowhere p xs d
    → position p xs ≡ None
position-nowhere {X} p xs d nowhere =
    let is : position_or_len p xs ≡ length xs =
    position_or_len_is p xs (length xs) d (omega arith) nowhere.fails (λ less. absurd (omega arith)) in
    grind (arith, nat_tests)

-- one or the other
pub places : {X : Type 0} (p : X → Bool) (xs : List X) (d : X)
    → ((i : ℕ) × IsFirst p xs d i) ⊎ IsNowhere p xs d
places {X} p xs d =
    ⊎_elim
    (λ (some : position_or_len p xs < length xs).
    inl (
      position_or_len p xs,
      record {
        within = some;
        passes = passes_at_first p xs d some;
        before = λ k below. fails_before_first p xs k d below;
      },
    ))
    (λ (none : length xs ≤ position_or_len p xs).
    inr (record { fails = λ k within. fails_before_first p xs k d (omega arith) }))
    (cases_lt (position_or_len p xs) (length xs))

pub first-Some : {X : Type 0} (p : X → Bool) (xs : List X) (d : X) (i : ℕ) → position p xs ≡ Some i
    → IsFirst p xs d i
first-Some {X} p xs d i e =
    ⊎_elim
    (λ (some : (k : ℕ) × IsFirst p xs d k).
    let same : some.0 ≡ i = some_is (sym (position-first p xs d some.0 some.1) ∙ e) in subst (IsFirst p xs d) same some.1)
    (λ (none : IsNowhere p xs d). absurd (none_some (sym (position-nowhere p xs d none) ∙ e)))
    (places p xs d)
  where
    some_is : {a b : ℕ} → Some a ≡ Some b → a ≡ b
    some_is q = cc

    none_some : {a : ℕ} → None ≡ Some a → ⊥
    none_some q = cc

pub nowhere-None : {X : Type 0} (p : X → Bool) (xs : List X) (d : X) → position p xs ≡ None → IsNowhere p xs d
nowhere-None {X} p xs d e =
    ⊎_elim
    (λ (some : (k : ℕ) × IsFirst p xs d k). absurd (some_none (sym (position-first p xs d some.0 some.1) ∙ e)))
    (λ (none : IsNowhere p xs d). none)
    (places p xs d)
  where
    some_none : {a : ℕ} → Some a ≡ None → ⊥
    some_none q = cc

-- ---- one more element at the end

pub first-push : {X : Type 0} (p : X → Bool) (xs : List X) (x d : X) (i : ℕ) → IsFirst p xs d i
    → IsFirst p (xs ++ x ∷ []) d i
first-push {X} p xs x d i first =
    let within : i < length xs = first.within in
    record {
      within = omega (arith, length-append xs (x ∷ []));
      passes = ap p (get_or-append xs (x ∷ []) d i within) ∙ first.passes;
      before = λ k below. ap p (get_or-append xs (x ∷ []) d k (omega arith)) ∙ first.before k below;
    }

-- where none passed, the new one does, or none
pub nowhere-push : {X : Type 0} (p : X → Bool) (xs : List X) (x d : X) → IsNowhere p xs d
    → IsFirst p (xs ++ x ∷ []) d (length xs) ⊎ IsNowhere p (xs ++ x ∷ []) d
nowhere-push {X} p xs x d nowhere = tested (p x) refl
  where
    earlier : (k : ℕ) → k < length xs → p (get_or (xs ++ x ∷ []) k d) ≡ false
    earlier k below = ap p (get_or-append xs (x ∷ []) d k below) ∙ nowhere.fails k below

    last : p (get_or (xs ++ x ∷ []) (length xs) d) ≡ p x
    last = ap p (get_or-append_seam xs x [] d)

    tested : (b : Bool) → p x ≡ b → IsFirst p (xs ++ x ∷ []) d (length xs) ⊎ IsNowhere p (xs ++ x ∷ []) d
    tested true is = inl (record { within = omega (arith, length-append xs (x ∷ [])); passes = last ∙ is; before = earlier })
    tested false is = inr (record {
      fails = λ k within. ⊎_elim
          (λ (below : k < length xs). earlier k below)
          (λ (above : length xs ≤ k).
          let same : length xs ≡ k = omega (arith, within, length-append xs (x ∷ [])) in
          subst (λ (j : ℕ). p (get_or (xs ++ x ∷ []) j d) ≡ false) same (last ∙ is))
          (cases_lt k (length xs));
    })
