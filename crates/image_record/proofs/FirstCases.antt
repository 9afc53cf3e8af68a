-- Where no case is broken, each item passes.
use Rattle.std.proofs.Common.{◌≡◌, ℕ, zero, suc, ◌<◌, Bool, true, false, List, [], ◌∷◌, ◌++◌, length, take, get_or, Option, Some, None, refl, sym, subst, arith}
use Rattle.std.specs.Prelude.{if◌then◌else◌}
use Rattle.std.proofs.lemmas.List.{append_assoc, append-nil}
use Rattle.image_record.specs.Cases.{or_else, first_case, first_in}

pub or_first : {A : Type 0} (o rest : Option A) → or_else o rest ≡ None → o ≡ None
or_first (Some x) rest n = n
or_first None rest n = refl

pub or_rest : {A : Type 0} (o rest : Option A) → or_else o rest ≡ None → rest ≡ None
or_rest (Some x) rest n = cc
or_rest None rest n = n

pub if_first : {A : Type 0} (b : Bool) (x : A) (rest : Option A) → (if b then Some x else rest) ≡ None
    → b ≡ false
if_first true x rest n = cc
if_first false x rest n = refl

pub if_rest : {A : Type 0} (b : Bool) (x : A) (rest : Option A) → (if b then Some x else rest) ≡ None
    → rest ≡ None
if_rest true x rest n = cc
if_rest false x rest n = n

-- a test that is passed, and what follows it
pub passed : {A : Type 0} (b : Bool) (rest : Option A) (x : A) → (if b then rest else Some x) ≡ None
    → (b ≡ true) × (rest ≡ None)
passed true rest x n = (refl, n)
passed false rest x n = cc

case_none : {A R : Type 0} (f : List A → A → Option R) (earlier xs : List A) → first_case f earlier xs ≡ None
    → (k : ℕ) → k < length xs → (d : A) → f (earlier ++ take k xs) (get_or xs k d) ≡ None
case_none f earlier [] n k l d = absurd (omega arith)
case_none {A = A} f earlier (x ∷ xs) n zero l d =
    let P : List A → Type 0 = λ ys. f ys x ≡ None in
    subst P (sym (append-nil earlier)) (or_first (f earlier x) _ n)
case_none {A = A} f earlier (x ∷ xs) n (suc k) l d =
    let rest = case_none f (earlier ++ x ∷ []) xs (or_rest (f earlier x) _ n) k (omega arith) d in
    let P : List A → Type 0 = λ ys. f ys (get_or xs k d) ≡ None in
    subst P (append_assoc earlier (x ∷ []) (take k xs)) rest

pub first_in_none : {A R : Type 0} (f : List A → A → Option R) (xs : List A) → first_in f xs ≡ None → (k : ℕ)
    → k < length xs → (d : A) → f (take k xs) (get_or xs k d) ≡ None
first_in_none f xs n k l d = case_none f [] xs n k l d
