-- The first broken case of a list: that there is none, or which it is.
use Rattle.std.proofs.Common.{◌≡◌, ℕ, zero, suc, ◌<◌, List, [], ◌∷◌, ◌++◌, length, take, get_or, Option, Some, None, refl, sym, ap, subst, ◌∙◌, arith}
use Rattle.std.proofs.lemmas.List.{append_assoc, append-nil}
use Rattle.image_record.specs.Cases.{or_else, first_case, first_in}

-- each item, after those before it, has none
pub case_all : {A R : Type 0} (f : List A → A → Option R) (earlier xs : List A) (d : A)
    → ((k : ℕ) → k < length xs → f (earlier ++ take k xs) (get_or xs k d) ≡ None)
    → first_case f earlier xs ≡ None
case_all f earlier [] d h = refl
case_all {A = A} f earlier (x ∷ xs) d h =
    let P : List A → Type 0 = λ ys. f ys x ≡ None in
    let here : f earlier x ≡ None = subst P (append-nil earlier) (h 0 (omega arith)) in
    let rest =
    case_all f (earlier ++ x ∷ []) xs d
    (λ k l.
    let Q : List A → Type 0 = λ ys. f ys (get_or xs k d) ≡ None in
    subst Q (sym (append_assoc earlier (x ∷ []) (take k xs))) (h (suc k) (omega (arith, l)))) in
    ap (λ o. or_else o (first_case f (earlier ++ x ∷ []) xs)) here ∙ rest

pub none_in : {A R : Type 0} (f : List A → A → Option R) (xs : List A) (d : A)
    → ((k : ℕ) → k < length xs → f (take k xs) (get_or xs k d) ≡ None) → first_in f xs ≡ None
none_in f xs d h = case_all f [] xs d h

-- the first item that has one
pub record First {A R : Type 0} (f : List A → A → Option R) (earlier xs : List A) (d : A) (r : R) : Type 0 where
  pub place : ℕ
  pub within : place < length xs
  pub before : (j : ℕ) → j < place → f (earlier ++ take j xs) (get_or xs j d) ≡ None
  pub here : f (earlier ++ take place xs) (get_or xs place d) ≡ Some r

pub case_first : {A R : Type 0} (f : List A → A → Option R) (earlier xs : List A) (d : A) (r : R)
    → first_case f earlier xs ≡ Some r → First f earlier xs d r
case_first f earlier [] d r e = cc
case_first {A = A} {R = R} f earlier (x ∷ xs) d r e =
    by_case (case_first f (earlier ++ x ∷ []) xs d r) (f earlier x) refl e
  where
    none : Option R → List A → Type 0
    none o ys = f ys x ≡ o

    later : (place : ℕ) → f earlier x ≡ None
        → ((j : ℕ) → j < place → f ((earlier ++ x ∷ []) ++ take j xs) (get_or xs j d) ≡ None) → (j : ℕ)
        → j < suc place → f (earlier ++ take j (x ∷ xs)) (get_or (x ∷ xs) j d) ≡ None
    later place is before zero l = subst (none None) (sym (append-nil earlier)) is
    later place is before (suc j) l =
        let P : List A → Type 0 = λ ys. f ys (get_or xs j d) ≡ None in
        subst P (append_assoc earlier (x ∷ []) (take j xs)) (before j (omega (arith, l)))

    by_case : (first_case f (earlier ++ x ∷ []) xs ≡ Some r → First f (earlier ++ x ∷ []) xs d r) → (o : Option R)
        → f earlier x ≡ o → or_else o (first_case f (earlier ++ x ∷ []) xs) ≡ Some r
        → First f earlier (x ∷ xs) d r
    by_case among (Some q) is same =
        let whole : f earlier x ≡ Some r = is ∙ same in
        record {
          place = 0;
          within = omega arith;
          before = λ j l. absurd (omega (arith, l));
          here = subst (none (Some r)) (sym (append-nil earlier)) whole;
        }
    by_case among None is same =
        let rest = among same in
        let Q : List A → Type 0 = λ ys. f ys (get_or xs rest.place d) ≡ Some r in
        record {
          place = suc rest.place;
          within = omega (arith, rest.within);
          before = later rest.place is rest.before;
          here = subst Q (append_assoc earlier (x ∷ []) (take rest.place xs)) rest.here;
        }

pub first_of : {A R : Type 0} (f : List A → A → Option R) (xs : List A) (d : A) (r : R) → first_in f xs ≡ Some r
    → First f [] xs d r
first_of f xs d r e = case_first f [] xs d r e

-- and the converse
pub case_is : {A R : Type 0} (f : List A → A → Option R) (earlier xs : List A) (d : A) (r : R) (k : ℕ)
    → k < length xs → ((j : ℕ) → j < k → f (earlier ++ take j xs) (get_or xs j d) ≡ None)
    → f (earlier ++ take k xs) (get_or xs k d) ≡ Some r
    → first_case f earlier xs ≡ Some r
case_is f earlier [] d r k l before here = absurd (omega (arith, l))
case_is {A = A} f earlier (x ∷ xs) d r zero l before here =
    let P : List A → Type 0 = λ ys. f ys x ≡ Some r in
    ap (λ o. or_else o (first_case f (earlier ++ x ∷ []) xs)) (subst P (append-nil earlier) here)
case_is {A = A} f earlier (x ∷ xs) d r (suc k) l before here =
    let P : List A → Type 0 = λ ys. f ys x ≡ None in
    let Q : List A → Type 0 = λ ys. f ys (get_or xs k d) ≡ Some r in
    let passes : f earlier x ≡ None = subst P (append-nil earlier) (before 0 (omega arith)) in
    let rest =
    case_is f (earlier ++ x ∷ []) xs d r k (omega (arith, l))
    (λ j m.
    let S : List A → Type 0 = λ ys. f ys (get_or xs j d) ≡ None in
    subst S (sym (append_assoc earlier (x ∷ []) (take j xs))) (before (suc j) (omega (arith, m))))
    (subst Q (sym (append_assoc earlier (x ∷ []) (take k xs))) here) in
    ap (λ o. or_else o (first_case f (earlier ++ x ∷ []) xs)) passes ∙ rest

pub is_first : {A R : Type 0} (f : List A → A → Option R) (xs : List A) (d : A) (r : R) (k : ℕ) → k < length xs
    → ((j : ℕ) → j < k → f (take j xs) (get_or xs j d) ≡ None) → f (take k xs) (get_or xs k d) ≡ Some r
    → first_in f xs ≡ Some r
is_first f xs d r k l before here = case_is f [] xs d r k l before here

-- ---- the items of two lists

or_assoc : {A : Type 0} (a b c : Option A) → or_else (or_else a b) c ≡ or_else a (or_else b c)
or_assoc (Some x) b c = refl
or_assoc None b c = refl

pub case_append : {A R : Type 0} (f : List A → A → Option R) (earlier xs ys : List A)
    → first_case f earlier (xs ++ ys) ≡ or_else (first_case f earlier xs) (first_case f (earlier ++ xs) ys)
case_append f earlier [] ys = ap (λ zs. first_case f zs ys) (sym (append-nil earlier))
case_append f earlier (x ∷ xs) ys =
    let next = earlier ++ x ∷ [] in
    ap (or_else (f earlier x))
    (case_append f next xs ys
    ∙ ap (λ zs. or_else (first_case f next xs) (first_case f zs ys)) (append_assoc earlier (x ∷ []) xs))
    ∙ sym (or_assoc (f earlier x) (first_case f next xs) (first_case f (earlier ++ x ∷ xs) ys))

-- what was before is handed on by the test itself
pub case_after : {A R : Type 0} (f : List A → A → Option R) (before earlier xs : List A)
    → first_case (λ es x. f (before ++ es) x) earlier xs ≡ first_case f (before ++ earlier) xs
case_after f before earlier [] = refl
case_after f before earlier (x ∷ xs) =
    ap (or_else (f (before ++ earlier) x))
    (case_after f before (earlier ++ x ∷ []) xs
    ∙ ap (λ es. first_case f es xs) (sym (append_assoc before earlier (x ∷ []))))

pub in_after : {A R : Type 0} (f : List A → A → Option R) (before xs : List A)
    → first_in (λ es x. f (before ++ es) x) xs ≡ first_case f before xs
in_after f before xs = case_after f before [] xs ∙ ap (λ es. first_case f es xs) (append-nil before)
