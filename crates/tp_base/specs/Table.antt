-- A finite map from numbers, with a value that stands wherever nothing was put.
use Rattle.std.specs.Prelude.{◌≡◌, ◌≢◌, ℕ, true, false, cond, eqb, List, [], ◌∷◌, refl}
use Rattle.std.proofs.Common.{◌∙◌, sym, subst, eq-eqb, ne_eqb, eqb-true, true≢false}

-- the pairs that were put, newest first
abbrev pub Table : Type 0 → Type 0
Table A = List (ℕ × A)

unfoldable pub empty : {A : Type 0} → Table A
empty = []

-- what stands at a key; `fresh` where nothing was put
unfoldable pub at : {A : Type 0} → A → Table A → ℕ → A
at fresh [] j = fresh
at fresh (e ∷ m) j = cond (eqb j e.0) e.1 (at fresh m j)

unfoldable pub put : {A : Type 0} → Table A → ℕ → A → Table A
put m k v = (k, v) ∷ m

pub at-empty : {A : Type 0} (fresh : A) (k : ℕ) → at fresh empty k ≡ fresh
unfolding at empty
at-empty fresh k = refl

-- a write splits into its key and all others
pub at-put : {A : Type 0} (fresh : A) (m : Table A) (k j : ℕ) (v : A)
    → at fresh (put m k v) j ≡ cond (eqb j k) v (at fresh m j)
unfolding at put
at-put fresh m k j v = refl

pub at-put_other : {A : Type 0} (fresh : A) (m : Table A) (k j : ℕ) (v : A) → j ≢ k
    → at fresh (put m k v) j ≡ at fresh m j
at-put_other fresh m k j v ne = rw (at-put fresh m k j v, ne_eqb j k ne) refl

pub at-put_same : {A : Type 0} (fresh : A) (m : Table A) (k : ℕ) (v : A) → at fresh (put m k v) k ≡ v
at-put_same fresh m k v = rw (at-put fresh m k k v, eq-eqb k k refl) refl

-- what holds of the value put and of all that stands elsewhere holds everywhere after the write
pub at-put_by : {A : Type 0} (fresh : A) (m : Table A) (k : ℕ) (v : A) (P : ℕ → A → Type 0)
    → P k v → ((j : ℕ) → j ≢ k → P j (at fresh m j)) → (j : ℕ) → P j (at fresh (put m k v) j)
at-put_by {A} fresh m k v P here there j =
    elim (eqb j k) as (λ b. eqb j k ≡ b → P j (at fresh (put m k v) j)) [
      | true ↦ λ t.
          let same : j ≡ k = eqb-true j k t in
          subst (λ (i : ℕ). P i (at fresh (put m k v) i)) (sym same)
          (subst (P k) (sym (at-put_same fresh m k v)) here)
      | false ↦ λ t.
          let other : j ≢ k = λ e. true≢false (sym (eq-eqb j k e) ∙ t) in
          subst (P j) (sym (at-put_other fresh m k j v other)) (there j other)
    ] refl
