-- The lent colours, domain by domain.
use Rattle.std.proofs.Common.{◌≡◌, ℕ, zero, suc, ◌+◌, ◌<◌, ◌≤◌, ◌||◌, List, [], ◌∷◌, ◌++◌, length, map, take, drop, get_or, Option, Some, None, refl, sym, ap, ◌∙◌, arith}
use Rattle.std.specs.Prelude.{ℤ}
use Rattle.std.specs.List.{list_any}
use Rattle.std.proofs.lemmas.List.{append_assoc, append-nil, length-append, length-map, drop_all, drop_more, map_more}
use Rattle.std.proofs.lemmas.List.Folds.{list_any-append}
use Rattle.image_record.specs.Numbers.{is_same, names}
use Rattle.image_record.specs.Cases.{or_else, first_case}
use Rattle.image_record.proofs.Loops.{count_of}
use Rattle.lend_check.specs.Lending.{LendingDomain, lent_by, lent_from, said}
use Rattle.lend_check.specs.Rule.{is_lent}
use Rattle.lend_check.proofs.Firsts.{case_append}

-- with one domain more
pub lent_push : (d : ℕ) (os : List LendingDomain) (o : LendingDomain)
    → lent_from d (os ++ o ∷ []) ≡ lent_from d os ++ lent_by (d + length os) o.lend
lent_push d [] o = let same : d ≡ d + 0 = omega arith in append-nil (lent_by d o.lend) ∙ ap (λ (n : ℕ). lent_by n o.lend) same
lent_push d (p ∷ os) o =
    let same : d + 1 + length os ≡ d + length (p ∷ os) = omega arith in
    ap (λ ls. lent_by d p.lend ++ ls)
    (lent_push (d + 1) os o ∙ ap (λ (n : ℕ). lent_from (d + 1) os ++ lent_by n o.lend) same)
    ∙ sym (append_assoc (lent_by d p.lend) (lent_from (d + 1) os) (lent_by (d + length (p ∷ os)) o.lend))

-- the first of them, and the rest
pub halves : (b : ℕ) (os : List LendingDomain) (d : ℕ)
    → lent_from b os ≡ lent_from b (take d os) ++ lent_from (b + d) (drop d os)
halves b os zero = let same : b ≡ b + 0 = omega arith in ap (λ (n : ℕ). lent_from n os) same
halves b [] (suc d) = refl
halves b (o ∷ os) (suc d) =
    let same : b + 1 + d ≡ b + suc d = omega arith in
    ap (λ ls. lent_by b o.lend ++ ls)
    (halves (b + 1) os d ∙ ap (λ (n : ℕ). lent_from (b + 1) (take d os) ++ lent_from n (drop d os)) same)
    ∙ sym (append_assoc (lent_by b o.lend) (lent_from (b + 1) (take d os)) (lent_from (b + suc d) (drop d os)))

-- ---- whether a colour is lent

any_by : (d : ℕ) (xs : List ℤ) (x : ℤ) → is_lent (lent_by d xs) x ≡ names xs x
any_by d [] x = refl
any_by d (y ∷ ys) x = ap (λ b. is_same y x || b) (any_by d ys x)

pub any_from : (d : ℕ) (os : List LendingDomain) (x : ℤ) → is_lent (lent_from d os) x ≡ list_any (λ o. names o.lend x) os
any_from d [] x = refl
any_from d (o ∷ os) x =
    list_any-append (λ (l : ℕ × ℤ). is_same l.1 x) (lent_by d o.lend) (lent_from (d + 1) os)
    ∙ ap (λ b. b || is_lent (lent_from (d + 1) os) x) (any_by d o.lend x)
    ∙ ap (λ b. names o.lend x || b) (any_from (d + 1) os x)

-- those of the domains before, and of the same
pub any_before : (before : List (ℕ × ℤ)) (d : ℕ) (xs : List ℤ) (x : ℤ)
    → is_lent (before ++ lent_by d xs) x ≡ (is_lent before x || names xs x)
any_before before d xs x =
    list_any-append (λ (l : ℕ × ℤ). is_same l.1 x) before (lent_by d xs) ∙ ap (λ b. is_lent before x || b) (any_by d xs x)

-- ---- how many are lent

pub count_from : (d : ℕ) (o : LendingDomain) (os : List LendingDomain)
    → length (lent_from d (o ∷ os)) ≡ length o.lend + length (lent_from (d + 1) os)
count_from d o os =
    length-append (lent_by d o.lend) (lent_from (d + 1) os)
    ∙ ap (λ (n : ℕ). n + length (lent_from (d + 1) os)) (length-map o.lend (λ x. (d, x)))

-- ---- a loop that goes through the domains, each seen by a model

pub said_more : {A : Type 0} (g : A → LendingDomain) (xs : List A) (d : ℕ) (x e : A) → d < length xs
    → x ≡ get_or xs d e
    → said (map g (take (d + 1) xs)) ≡ said (map g (take d xs)) ++ lent_by d (g x).lend
said_more g xs d x e below is =
    let before = map g (take d xs) in
    let count : 0 + length before ≡ d = omega (arith, count_of g xs d below) in
    ap said (map_more g xs d e below ∙ ap (λ y. before ++ g y ∷ []) (sym is))
    ∙ lent_push 0 before (g x)
    ∙ ap (λ (n : ℕ). said before ++ lent_by n (g x).lend) count

pub split : {A R : Type 0} (f : List (ℕ × ℤ) → ℕ × ℤ → Option R) (g : A → LendingDomain) (xs : List A) (d : ℕ) (x e : A)
    → d < length xs → x ≡ get_or xs d e
    → first_case f (said (map g (take d xs))) (lent_from d (map g (drop d xs)))
    ≡ or_else (first_case f (said (map g (take d xs))) (lent_by d (g x).lend))
    (first_case f (said (map g (take (d + 1) xs))) (lent_from (d + 1) (map g (drop (d + 1) xs))))
split f g xs d x e below is =
    let before = said (map g (take d xs)) in
    let rest = lent_from (d + 1) (map g (drop (d + 1) xs)) in
    let own = lent_by d (g x).lend in
    ap (λ ys. first_case f before (lent_from d (map g ys))) (drop_more xs d e below ∙ ap (λ y. y ∷ drop (d + 1) xs) (sym is))
    ∙ case_append f before own rest
    ∙ ap (λ ls. or_else (first_case f before own) (first_case f ls rest)) (sym (said_more g xs d x e below is))

pub domain_passed : {A R : Type 0} (f : List (ℕ × ℤ) → ℕ × ℤ → Option R) (g : A → LendingDomain) (xs : List A) (d : ℕ)
    (x e : A) → d < length xs → x ≡ get_or xs d e
    → first_case f (said (map g (take d xs))) (lent_by d (g x).lend) ≡ None
    → first_case f (said (map g (take (d + 1) xs))) (lent_from (d + 1) (map g (drop (d + 1) xs)))
    ≡ first_case f (said (map g (take d xs))) (lent_from d (map g (drop d xs)))
domain_passed f g xs d x e below is none =
    let rest = first_case f (said (map g (take (d + 1) xs))) (lent_from (d + 1) (map g (drop (d + 1) xs))) in
    sym (split f g xs d x e below is ∙ ap (λ o. or_else o rest) none)

pub domain_found : {A R : Type 0} (f : List (ℕ × ℤ) → ℕ × ℤ → Option R) (g : A → LendingDomain) (xs : List A) (d : ℕ)
    (x e : A) (r : R) → d < length xs → x ≡ get_or xs d e
    → first_case f (said (map g (take d xs))) (lent_by d (g x).lend) ≡ Some r
    → first_case f (said (map g (take d xs))) (lent_from d (map g (drop d xs))) ≡ Some r
domain_found f g xs d x e r below is some =
    let rest = first_case f (said (map g (take (d + 1) xs))) (lent_from (d + 1) (map g (drop (d + 1) xs))) in
    split f g xs d x e below is ∙ ap (λ o. or_else o rest) some

pub domains_ended : {A R : Type 0} (f : List (ℕ × ℤ) → ℕ × ℤ → Option R) (g : A → LendingDomain)
    (earlier : List (ℕ × ℤ)) (xs : List A) (d : ℕ) → length xs ≤ d
    → first_case f earlier (lent_from d (map g (drop d xs))) ≡ None
domains_ended f g earlier xs d past = ap (λ ys. first_case f earlier (lent_from d (map g ys))) (drop_all d xs past)
