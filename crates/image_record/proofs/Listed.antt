-- Where a number stands in a list of integers.
use Rattle.std.proofs.Common.{◌≡◌, ℕ, suc, ◌<◌, Bool, true, false, ◌||◌, List, [], ◌∷◌, length, map, get_or, refl, sym, ap, ◌∙◌, arith, ◌⊎◌, inl, inr, true≢false, eqb-true}
use Rattle.std.specs.Prelude.{ℤ, pos, negsuc, nat_lt, nat_eq}
use Rattle.std.specs.List.{list_any}
use Rattle.std.proofs.lemmas.Bool.{or_cases}
use Rattle.std.proofs.lemmas.Bool.Decides.{nat_tests}
use Rattle.std.proofs.lemmas.List.{length-map, get_or-map}
use Rattle.std.proofs.lemmas.List.Folds.{list_any_at}
use Rattle.image_record.specs.Cases.{outside}
use Rattle.image_record.specs.Numbers.{natural_of, is_same, names}

-- ---- integers

same_itself : (x : ℤ) → is_same x x ≡ true
same_itself (pos n) = let l : nat_lt n n ≡ false = grind (arith, nat_tests) in rw l refl
same_itself (negsuc n) = let l : nat_lt n n ≡ false = grind (arith, nat_tests) in rw l refl

same_is : (x y : ℤ) → is_same x y ≡ true → x ≡ y
same_is (pos m) (pos n) h = let e : m ≡ n = grind (arith, nat_tests, h) in ap pos e
same_is (pos m) (negsuc n) h = cc
same_is (negsuc m) (pos n) h = cc
same_is (negsuc m) (negsuc n) h = let e : m ≡ n = grind (arith, nat_tests, h) in ap negsuc e

-- a number from 0 on is one integer's alone
pub the_integer : (most : ℕ) (x : ℤ) → outside (pos 0) (pos most) x ≡ false → x ≡ pos (natural_of x)
the_integer most (pos n) h = refl
the_integer most (negsuc n) h = cc

-- ---- places

-- whether a natural number stands in a list
abbrev pub has : List ℕ → ℕ → Bool
has numbers n = list_any (λ m. nat_eq m n) numbers

-- a natural number, as that of an integer
pub record Found (xs : List ℤ) (n : ℕ) : Type 0 where
  pub place : ℕ
  pub within : place < length xs
  pub same : natural_of (get_or xs place (pos 0)) ≡ n

pub found : (xs : List ℤ) (n : ℕ) → has (map natural_of xs) n ≡ true → Found xs n
found [] n h = absurd (true≢false (sym h))
found (x ∷ xs) n h = by_case (found xs n) (nat_eq (natural_of x) n) refl
  where
    by_case : (has (map natural_of xs) n ≡ true → Found xs n) → (b : Bool) → nat_eq (natural_of x) n ≡ b
        → Found (x ∷ xs) n
    by_case later true e = record { place = 0; within = omega arith; same = eqb-true (natural_of x) n e }
    by_case later false e =
        let rest = later (sym (ap (λ b. b || has (map natural_of xs) n) e) ∙ h) in
        record { place = suc rest.place; within = omega (arith, rest.within); same = rest.same }

-- an integer
pub record Stands (xs : List ℤ) (x : ℤ) : Type 0 where
  pub place : ℕ
  pub within : place < length xs
  pub same : get_or xs place (pos 0) ≡ x

pub stands : (xs : List ℤ) (x : ℤ) → names xs x ≡ true → Stands xs x
stands [] x h = absurd (true≢false (sym h))
stands (y ∷ ys) x h = by_case (stands ys x) (or_cases (is_same y x) (names ys x) h)
  where
    by_case : (names ys x ≡ true → Stands ys x) → (is_same y x ≡ true) ⊎ (names ys x ≡ true)
        → Stands (y ∷ ys) x
    by_case later (inl here) = record { place = 0; within = omega arith; same = same_is y x here }
    by_case later (inr there) =
        let rest = later there in
        record { place = suc rest.place; within = omega (arith, rest.within); same = rest.same }

pub names_at : (xs : List ℤ) (k : ℕ) → k < length xs → (d : ℤ) → names xs (get_or xs k d) ≡ true
names_at xs k l d = list_any_at (λ y. is_same y (get_or xs k d)) xs k d l (same_itself (get_or xs k d))

-- an integer of the list is one of its natural numbers
pub has_natural : (xs : List ℤ) (x : ℤ) → names xs x ≡ true → has (map natural_of xs) (natural_of x) ≡ true
has_natural xs x h =
    let s = stands xs x h in
    let same : get_or (map natural_of xs) s.place 0 ≡ natural_of x =
    get_or-map natural_of xs s.place (pos 0) 0 s.within ∙ ap natural_of s.same in
    let equal : nat_eq (get_or (map natural_of xs) s.place 0) (natural_of x) ≡ true = grind (arith, nat_tests, same) in
    list_any_at (λ m. nat_eq m (natural_of x)) (map natural_of xs) s.place 0 (omega (arith, length-map xs natural_of, s.within)) equal
