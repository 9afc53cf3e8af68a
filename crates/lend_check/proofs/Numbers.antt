-- How parties are numbered.
use Rattle.std.proofs.Common.{subst, ◌≡◌, ℕ, zero, suc, ◌+◌, ◌<◌, ◌≤◌, Bool, true, false, ◌&&◌, List, [], ◌∷◌, ◌++◌, length, map, take, drop, get_or, Option, Some, None, refl, sym, ap, ap₂, ◌∙◌, arith, ◌-◌, ◌⊎◌, inl, inr, eqb-true, cond}
use Rattle.std.specs.Prelude.{slice_get, ℤ, pos, negsuc, nat_eq, nat_lt, if◌then◌else◌, option_map}
use Rattle.std.specs.List.{position, position_from, sum_by}
use Rattle.std.proofs.lemmas.Bool.{cases_lt, ltb-true}
use Rattle.std.proofs.lemmas.Bool.Decides.{nat_tests}
use Rattle.std.proofs.lemmas.List.{append_assoc, append-nil, take-map, drop-map, drop_more, length-append, length-map, length-take, get_or-map, get_or_append_left, get_or-append-add, get_or_past}
use Rattle.std.proofs.lemmas.List.Sums.{sum_by-cons}
use Rattle.std.proofs.lemmas.Option.{slice_get_within, slice_get-get_or, get_or_from_slice_get}
use Rattle.std.proofs.lemmas.Iterator.Adapters.{position_from-zero}
use Rattle.image_record.specs.Numbers.{IsNatural, natural_of, is_same, names}
use Rattle.image_record.specs.Cases.{or_else, first_case, first_in}
use Rattle.image_record.proofs.FirstCases.{first_in_none}
use Rattle.image_record.proofs.Listed.{stands}
use Rattle.image_record.proofs.Loops.{count_of}
use Rattle.lend_check.specs.Lending.{no_domain, LendingDomain, LendingEntry, domain_at, lend_of, lent_by, lent_from, said, in_naturals}
use Rattle.lend_check.specs.Parties.{parties, is_child, if_child, child_number, Party, Domain, Child, number_of, party_of, party_by}
use Rattle.lend_check.specs.Laws.{OrderLaw, ChildLaw, DistinctLaw, CountLaw, LimitLaw, EachLaw, EntryLaw}
use Rattle.lend_check.proofs.Firsts.{First, first_of, is_first, case_append}
use Rattle.lend_check.proofs.Walks.{halves, split}
use Rattle.lend_check.proofs.Kept.{no_colour, said_at, At, at, get_lent}

-- ---- whether it is the child

same_is : (x y : ℤ) → is_same x y ≡ true → x ≡ y
same_is (pos m) (pos n) h = let e : m ≡ n = grind (arith, nat_tests, h) in ap pos e
same_is (pos m) (negsuc n) h = cc
same_is (negsuc m) (pos n) h = cc
same_is (negsuc m) (negsuc n) h = let e : m ≡ n = grind (arith, nat_tests, h) in ap negsuc e

same_itself : (x : ℤ) → is_same x x ≡ true
same_itself (pos n) = let l : nat_lt n n ≡ false = grind (arith, nat_tests) in rw l refl
same_itself (negsuc n) = let l : nat_lt n n ≡ false = grind (arith, nat_tests) in rw l refl

both : (a b : Bool) → (a && b) ≡ true → (a ≡ true) × (b ≡ true)
both true true h = (refl, refl)
both true false h = cc
both false b h = cc

child_same : (child other : ℕ × ℤ) → is_child child other ≡ true → other ≡ child
child_same (d, x) (e, y) h =
    let parts = both (nat_eq e d) (is_same y x) h in
    ap₂ (λ (n : ℕ) (z : ℤ). (n, z)) (eqb-true e d parts.0) (same_is y x parts.1)

child_itself : (child : ℕ × ℤ) → is_child child child ≡ true
child_itself (d, x) = let same : nat_eq d d ≡ true = grind (arith, nat_tests) in rw (same, same_itself x) refl

-- ---- the place of a child among all

pub record Numbered (domains : List LendingDomain) (d : ℕ) (x : ℤ) (n : ℕ) : Type 0 where
  pub place : ℕ
  pub within : place < length (said domains)
  pub is : said_at domains place ≡ (d, x)
  pub same : n ≡ length domains + place

numbered : (domains : List LendingDomain) (d : ℕ) (x : ℤ) (n : ℕ) → child_number domains d x ≡ Some n
    → Numbered domains d x n
unfolding child_number
numbered domains d x n e = by_case (first_in (if_child (d, x)) (said domains)) refl e
  where
    by_test : (k : ℕ) → length domains + k ≡ n → (f : First (if_child (d, x)) [] (said domains) no_colour k)
        → (b : Bool)
        → is_child (d, x) (said_at domains f.place) ≡ b
        → (if b then Some (length (take f.place (said domains))) else None) ≡ Some k
        → Numbered domains d x n
    by_test k sum f true is e =
        let count : length (take f.place (said domains)) ≡ k = cc in
        record {
          place = f.place;
          within = f.within;
          is = child_same (d, x) (said_at domains f.place) is;
          same = omega (arith, count, sum, length-take f.place (said domains), f.within);
        }
    by_test k sum f false is e = cc

    by_case : (o : Option ℕ) → first_in (if_child (d, x)) (said domains) ≡ o
        → option_map (λ k. length domains + k) o ≡ Some n → Numbered domains d x n
    by_case None is e = cc
    by_case (Some k) is e =
        let sum : length domains + k ≡ n = cc in
        let f = first_of (if_child (d, x)) (said domains) no_colour k is in
        by_test k sum f (is_child (d, x) (said_at domains f.place)) refl f.here

-- ---- the laws

positive : (x : ℤ) (c : ℕ) → natural_of x ≡ c → 0 < c → x ≡ pos c
positive (pos m) c e some = ap pos e
positive (negsuc m) c e some = absurd (omega (arith, e, some))

pub child_is : ChildLaw
unfolding child_number number_of
child_is whole i k d c a e =
    ap (option_map (λ j. length i.domains + j))
    (is_first (if_child (d, pos c)) (said i.domains) no_colour k k there.within before here)
  where
    there : At i.domains k (d, c)
    there = at i.domains k (d, c) e

    some : 0 < c
    some = (a.each k (d, c) e).some

    is : said_at i.domains k ≡ (d, pos c)
    is =
        ap₂ (λ (n : ℕ) (z : ℤ). (n, z)) (ap (λ (l : ℕ × ℕ). l.0) there.is)
        (positive (said_at i.domains k).1 c (ap (λ (l : ℕ × ℕ). l.1) there.is) some)

    here : if_child (d, pos c) (take k (said i.domains)) (said_at i.domains k) ≡ Some k
    here =
        let test = ap (is_child (d, pos c)) is ∙ child_itself (d, pos c) in
        let count : length (take k (said i.domains)) ≡ k = omega (arith, length-take k (said i.domains), there.within) in
        rw (test, count) refl

    before : (j : ℕ) → j < k → if_child (d, pos c) (take j (said i.domains)) (said_at i.domains j) ≡ None
    before j l = by_case (is_child (d, pos c) (said_at i.domains j)) refl
      where
        by_case : (b : Bool) → is_child (d, pos c) (said_at i.domains j) ≡ b
            → (if b then Some (length (take j (said i.domains))) else None) ≡ None
        by_case false h = refl
        by_case true h =
            let within : j < length (said i.domains) = omega (arith, l, there.within) in
            let same = ap in_naturals (child_same (d, pos c) (said_at i.domains j) h) in
            let equal =
            a.once j k (in_naturals (said_at i.domains j)) (d, c) (get_lent i.domains j within) e
            (ap (λ (m : ℕ × ℕ). m.1) same) in
            absurd (omega (arith, l, equal))

-- a domain's number, where it has one
domain_number : (domains : List LendingDomain) (d n : ℕ) → number_of domains (Domain d) ≡ Some n
    → (d < length domains) × (d ≡ n)
unfolding number_of
domain_number domains d n e = by_case (nat_lt d (length domains)) refl e
  where
    by_case : (b : Bool) → nat_lt d (length domains) ≡ b → (if b then Some d else None) ≡ Some n
        → (d < length domains) × (d ≡ n)
    by_case true is e = (ltb-true d (length domains) is, cc)
    by_case false is e = cc

child_numbered : (domains : List LendingDomain) (d : ℕ) (x : ℤ) (n : ℕ) → number_of domains (Child d x) ≡ Some n
    → Numbered domains d x n
unfolding number_of
child_numbered domains d x n e = numbered domains d x n e

pub distinct : DistinctLaw
distinct domains (Domain d) (Domain e) n p q =
    ap Domain ((domain_number domains d n p).1 ∙ sym (domain_number domains e n q).1)
distinct domains (Domain d) (Child e y) n p q =
    let a = domain_number domains d n p in
    let b = child_numbered domains e y n q in
    absurd (omega (arith, a.0, a.1, b.same))
distinct domains (Child d x) (Domain e) n p q =
    let a = child_numbered domains d x n p in
    let b = domain_number domains e n q in
    absurd (omega (arith, b.0, b.1, a.same))
distinct domains (Child d x) (Child e y) n p q =
    let a = child_numbered domains d x n p in
    let b = child_numbered domains e y n q in
    let place : a.place ≡ b.place = omega (arith, a.same, b.same) in
    let same : (d, x) ≡ (e, y) = sym a.is ∙ ap (said_at domains) place ∙ b.is in
    ap (λ (l : ℕ × ℤ). Child l.0 l.1) same

pub counted : CountLaw
counted domains (Domain d) n e =
    let p = domain_number domains d n e in
    omega (arith, p.0, p.1)
counted domains (Child d x) n e =
    let p = child_numbered domains d x n e in
    omega (arith, p.within, p.same)

pub below : LimitLaw
below whole i p n a e =
    let l = counted i.domains p n e in
    omega (arith, l, a.few, length-map (said i.domains) in_naturals)

pub each_number : EachLaw
unfolding number_of
each_number whole i n a l = either (cases_lt n (length i.domains))
  where
    either : (n < length i.domains) ⊎ (length i.domains ≤ n) → (p : Party) × (number_of i.domains p ≡ Some n)
    either (inl m) =
        let test : nat_lt n (length i.domains) ≡ true = grind (arith, nat_tests, m) in
        (Domain n, rw test refl)
    either (inr past) =
        let k = n - length i.domains in
        let within : k < length (said i.domains) = omega (arith, past, l) in
        let child = in_naturals (said_at i.domains k) in
        let sum : length i.domains + k ≡ n = omega (arith, past) in
        let number = child_is whole i k child.0 child.1 a (get_lent i.domains k within) in
        (Child child.0 (pos child.1), number ∙ ap Some sum)

-- ---- where the colours of a domain stand

-- how many are lent before domain d
abbrev before : List LendingDomain → ℕ → ℕ
before os d = sum_by (λ o. length o.lend) (take d os)

record Stands (ls : List (ℕ × ℤ)) (place : ℕ) (l : ℕ × ℤ) : Type 0 where
  pub within : place < length ls
  pub is : get_or ls place no_colour ≡ l

-- a colour with its domain
abbrev pair : ℕ → ℤ → ℕ × ℤ
pair d x = (d, x)

stands_from : (b : ℕ) (os : List LendingDomain) (d k : ℕ) → d < length os → k < length (domain_at os d).lend
    → Stands (lent_from b os) (before os d + k) (b + d, get_or (domain_at os d).lend k (pos 0))
stands_from b [] d k l m = absurd (omega (arith, l))
stands_from b (o ∷ os) zero k l m =
    let own = lent_by b o.lend in
    let within : k < length own = omega (arith, m, length-map o.lend (pair b)) in
    let number : b ≡ b + 0 = omega arith in
    let place : k ≡ before (o ∷ os) zero + k = omega arith in
    let l : ℕ × ℤ = (b + 0, get_or o.lend k (pos 0)) in
    let here : Stands (lent_from b (o ∷ os)) k l =
    record {
      within = omega (arith, within, length-append own (lent_from (b + 1) os));
      is =
          get_or_append_left own (lent_from (b + 1) os) no_colour k within
          ∙ get_or-map (pair b) o.lend k (pos 0) no_colour m
          ∙ ap (λ (n : ℕ). (n, get_or o.lend k (pos 0))) number;
    } in
    subst (λ (n : ℕ). Stands (lent_from b (o ∷ os)) n l) place here
stands_from b (o ∷ os) (suc d) k l m =
    let own = lent_by b o.lend in
    let rest = stands_from (b + 1) os d k (omega (arith, l)) m in
    let number : b + 1 + d ≡ b + suc d = omega arith in
    let long = length-map o.lend (pair b) in
    let sum : before (o ∷ os) (suc d) ≡ length o.lend + before os d = sum_by-cons (λ p. length p.lend) o (take d os) in
    let place : length own + (before os d + k) ≡ before (o ∷ os) (suc d) + k = omega (arith, long, sum) in
    let l : ℕ × ℤ = (b + suc d, get_or (domain_at os d).lend k (pos 0)) in
    let here : Stands (lent_from b (o ∷ os)) (length own + (before os d + k)) l =
    record {
      within = omega (arith, rest.within, length-append own (lent_from (b + 1) os));
      is =
          get_or-append-add own (lent_from (b + 1) os) (before os d + k) no_colour ∙ rest.is
          ∙ ap (λ (n : ℕ). (n, get_or (domain_at os d).lend k (pos 0))) number;
    } in
    subst (λ (n : ℕ). Stands (lent_from b (o ∷ os)) n l) place here

stands_at : (domains : List LendingDomain) (d k : ℕ) → d < length domains → k < length (domain_at domains d).lend
    → Stands (said domains) (before domains d + k) (d, get_or (domain_at domains d).lend k (pos 0))
stands_at domains d k l m =
    let number : 0 + d ≡ d = omega arith in
    let x = get_or (domain_at domains d).lend k (pos 0) in
    subst (λ (n : ℕ). Stands (said domains) (before domains d + k) (n, x)) number (stands_from 0 domains d k l m)

pub in_order : OrderLaw
in_order domains d k x e = either (cases_lt d (length domains))
  where
    P : LendingDomain → Type 0
    P o = slice_get o.lend k ≡ Some x

    either : (d < length domains) ⊎ (length domains ≤ d)
        → slice_get (said domains) (before domains d + k) ≡ Some (d, x)
    either (inl l) =
        let own = (domain_at domains d).lend in
        let s = stands_at domains d k l (slice_get_within own k x e) in
        slice_get-get_or (said domains) (before domains d + k) no_colour s.within
        ∙ ap Some (s.is ∙ ap (λ (y : ℤ). (d, y)) (get_or_from_slice_get own k x (pos 0) e))
    either (inr past) =
        let nothing : slice_get [] k ≡ Some x = subst P (get_or_past domains d no_domain past) e in
        absurd (omega (arith, slice_get_within [] k x nothing))

has_number : (domains : List LendingDomain) (d : ℕ) (x : ℤ) → d < length domains
    → names (domain_at domains d).lend x ≡ true
    → (n : ℕ) × (child_number domains d x ≡ Some n)
unfolding child_number
has_number domains d x l named = by_case (first_in (if_child (d, x)) (said domains)) refl
  where
    by_case : (o : Option ℕ) → first_in (if_child (d, x)) (said domains) ≡ o
        → (n : ℕ) × (option_map (λ k. length domains + k) (first_in (if_child (d, x)) (said domains)) ≡ Some n)
    by_case (Some k) is = (length domains + k, ap (option_map (λ j. length domains + j)) is)
    by_case None is =
        let at_colour = stands (domain_at domains d).lend x named in
        let place = before domains d + at_colour.place in
        let s = stands_at domains d at_colour.place l at_colour.within in
        let other : said_at domains place ≡ (d, x) = s.is ∙ ap (λ (y : ℤ). (d, y)) at_colour.same in
        let none = first_in_none (if_child (d, x)) (said domains) is place s.within no_colour in
        let test = ap (is_child (d, x)) other ∙ child_itself (d, x) in
        let some : if_child (d, x) (take place (said domains)) (said_at domains place)
        ≡ Some (length (take place (said domains))) = rw test refl in
        absurd (is_some (length (take place (said domains))) (sym some ∙ none))
      where
        is_some : (n : ℕ) → Some n ≡ None → ⊥
        is_some n e = cc

pub entry_number : EntryLaw
unfolding number_of
entry_number whole i e entry a there of = by_lend entry.lend refl
  where
    d : ℕ
    d = natural_of entry.domain

    l : d < length i.domains
    l = of.there

    lends : (y : ℤ) → IsNatural y → (x : ℤ) → names (lend_of i.domains y) x ≡ true
        → names (domain_at i.domains (natural_of y)).lend x ≡ true
    lends (pos n) natural x is = is
    lends (negsuc n) natural x is = absurd natural

    by_lend : (o : Option ℤ) → entry.lend ≡ o → (n : ℕ) × (number_of i.domains (party_by d o) ≡ Some n)
    by_lend None is = let test : nat_lt d (length i.domains) ≡ true = grind (arith, nat_tests, l) in (d, rw test refl)
    by_lend (Some x) is = has_number i.domains d x l (lends entry.domain of.natural x (a.entries e entry x there is))

-- ---- in the code: the place of a child by those of the domains before, and its place in the domain's own list

other_by : (child : ℕ × ℤ) (earlier : List (ℕ × ℤ)) (d : ℕ) (lend : List ℤ) → nat_eq d child.0 ≡ false
    → first_case (if_child child) earlier (lent_by d lend) ≡ None
other_by child earlier d [] other = refl
other_by child earlier d (x ∷ xs) other =
    let next = earlier ++ (d, x) ∷ [] in
    let none : if_child child earlier (d, x) ≡ None = rw other refl in
    ap (λ o. or_else o (first_case (if_child child) next (lent_by d xs))) none ∙ other_by child next d xs other

other_from : (child : ℕ × ℤ) (earlier : List (ℕ × ℤ)) (b : ℕ) (os : List LendingDomain)
    → ((d : ℕ) → b ≤ d → d < b + length os → nat_eq d child.0 ≡ false)
    → first_case (if_child child) earlier (lent_from b os) ≡ None
other_from child earlier b [] other = refl
other_from child earlier b (o ∷ os) other =
    let own = lent_by b o.lend in
    case_append (if_child child) earlier own (lent_from (b + 1) os)
    ∙ ap (λ p. or_else p (first_case (if_child child) (earlier ++ own) (lent_from (b + 1) os)))
    (other_by child earlier b o.lend (other b (omega arith) (omega arith)))
    ∙ other_from child (earlier ++ own) (b + 1) os (λ d l m. other d (omega (arith, l)) (omega (arith, m)))

shifted : (child : ℕ × ℤ) (before earlier xs : List (ℕ × ℤ)) → first_case (if_child child) (before ++ earlier) xs
    ≡ option_map (λ k. length before + k) (first_case (if_child child) earlier xs)
shifted child before earlier [] = refl
shifted child before earlier (x ∷ xs) = by_case (is_child child x) (shifted child before (earlier ++ x ∷ []) xs)
  where
    next : List (ℕ × ℤ)
    next = earlier ++ x ∷ []

    by_case : (b : Bool)
        → first_case (if_child child) (before ++ next) xs
        ≡ option_map (λ k. length before + k) (first_case (if_child child) next xs)
        → or_else (if b then Some (length (before ++ earlier)) else None)
        (first_case (if_child child) ((before ++ earlier) ++ x ∷ []) xs)
        ≡ option_map (λ k. length before + k)
        (or_else (if b then Some (length earlier) else None) (first_case (if_child child) next xs))
    by_case true rest = ap Some (length-append before earlier)
    by_case false rest =
        ap (λ es. first_case (if_child child) es xs) (append_assoc before earlier (x ∷ [])) ∙ rest

from_nothing : (child : ℕ × ℤ) (before xs : List (ℕ × ℤ))
    → first_case (if_child child) before xs ≡ option_map (λ k. length before + k) (first_in (if_child child) xs)
from_nothing child before xs =
    ap (λ es. first_case (if_child child) es xs) (sym (append-nil before)) ∙ shifted child before [] xs

halves_of : {A : Type 0} (g : A → LendingDomain) (xs : List A) (d : ℕ)
    → said (map g xs) ≡ said (map g (take d xs)) ++ lent_from d (map g (drop d xs))
halves_of g xs d =
    let sum : 0 + d ≡ d = omega arith in
    halves 0 (map g xs) d
    ∙ ap₂ (λ os ps. said os ++ lent_from (0 + d) ps) (take-map g d xs) (drop-map g d xs)
    ∙ ap (λ (n : ℕ). said (map g (take d xs)) ++ lent_from n (map g (drop d xs))) sum

-- among those of all domains
whole_place : {A : Type 0} (g : A → LendingDomain) (xs : List A) (d : ℕ) (x e : A) (z : ℤ) → d < length xs
    → x ≡ get_or xs d e
    → first_in (if_child (d, z)) (said (map g xs))
    ≡ or_else (first_case (if_child (d, z)) (said (map g (take d xs))) (lent_by d (g x).lend))
    (first_case (if_child (d, z)) (said (map g (take (d + 1) xs))) (lent_from (d + 1) (map g (drop (d + 1) xs))))
whole_place g xs d x e z below is =
    let f = if_child (d, z) in
    let before = said (map g (take d xs)) in
    let count = count_of g xs d below in
    let none = other_from (d, z) [] 0 (map g (take d xs)) (λ n l m. less n (omega (arith, m, count))) in
    ap (first_in f) (halves_of g xs d)
    ∙ case_append f [] before (lent_from d (map g (drop d xs)))
    ∙ ap (λ o. or_else o (first_case f before (lent_from d (map g (drop d xs))))) none
    ∙ split f g xs d x e below is
  where
    less : (n : ℕ) → n < d → nat_eq n d ≡ false
    less n l = grind (arith, nat_tests, l)

pub in_list : {A : Type 0} (g : A → LendingDomain) (xs : List A) (d : ℕ) (x e : A) (z : ℤ) (k : ℕ) → d < length xs
    → x ≡ get_or xs d e
    → first_in (if_child (d, z)) (lent_by d (g x).lend) ≡ Some k
    → child_number (map g xs) d z ≡ Some (length xs + length (said (map g (take d xs))) + k)
unfolding child_number
in_list g xs d x e z k below is found =
    let f = if_child (d, z) in
    let before = said (map g (take d xs)) in
    let rest = first_case f (said (map g (take (d + 1) xs))) (lent_from (d + 1) (map g (drop (d + 1) xs))) in
    let own = from_nothing (d, z) before (lent_by d (g x).lend) ∙ ap (option_map (λ j. length before + j)) found in
    let sum : length (map g xs) + (length before + k) ≡ length xs + length before + k = omega (arith, length-map xs g) in
    ap (option_map (λ j. length (map g xs) + j)) (whole_place g xs d x e z below is ∙ ap (λ o. or_else o rest) own)
    ∙ ap Some sum

pub not_in_list : {A : Type 0} (g : A → LendingDomain) (xs : List A) (d : ℕ) (x e : A) (z : ℤ) → d < length xs
    → x ≡ get_or xs d e
    → first_in (if_child (d, z)) (lent_by d (g x).lend) ≡ None
    → child_number (map g xs) d z ≡ None
unfolding child_number
not_in_list g xs d x e z below is none =
    let f = if_child (d, z) in
    let before = said (map g (take d xs)) in
    let through = said (map g (take (d + 1) xs)) in
    let later = map g (drop (d + 1) xs) in
    let own = from_nothing (d, z) before (lent_by d (g x).lend) ∙ ap (option_map (λ j. length before + j)) none in
    let rest = other_from (d, z) through (d + 1) later (λ n l m. more n (omega (arith, l))) in
    ap (option_map (λ j. length (map g xs) + j))
    (whole_place g xs d x e z below is ∙ ap (λ o. or_else o (first_case f through (lent_from (d + 1) later))) own ∙ rest)
  where
    more : (n : ℕ) → d < n → nat_eq n d ≡ false
    more n l = grind (arith, nat_tests, l)

-- no such domain
pub no_domain_there : {A : Type 0} (g : A → LendingDomain) (xs : List A) (d : ℕ) (z : ℤ) → length xs ≤ d
    → child_number (map g xs) d z ≡ None
unfolding child_number
no_domain_there g xs d z past =
    let count = length-map xs g in
    ap (option_map (λ j. length (map g xs) + j))
    (other_from (d, z) [] 0 (map g xs) (λ n l m. less n (omega (arith, m, count, past))))
  where
    less : (n : ℕ) → n < d → nat_eq n d ≡ false
    less n l = grind (arith, nat_tests, l)

-- ---- a domain's own list

pub this_one : (d k : ℕ) (z y : ℤ) (earlier : List (ℕ × ℤ)) → is_same y z ≡ true → length earlier ≡ k
    → if_child (d, z) earlier (d, y) ≡ Some k
this_one d k z y earlier same count =
    let itself : nat_eq d d ≡ true = grind (arith, nat_tests) in
    rw (itself, same, count) refl

pub not_this : (d : ℕ) (z y : ℤ) (earlier : List (ℕ × ℤ)) → is_same y z ≡ false → if_child (d, z) earlier (d, y) ≡ None
not_this d z y earlier other =
    let itself : nat_eq d d ≡ true = grind (arith, nat_tests) in
    rw (itself, other) refl

place_from : (d : ℕ) (z : ℤ) (earlier : List (ℕ × ℤ)) (xs : List ℤ)
    → position_from (λ y. is_same y z) (length earlier) xs ≡ first_case (if_child (d, z)) earlier (lent_by d xs)
place_from d z earlier [] = refl
place_from d z earlier (y ∷ ys) = by_case (is_same y z) refl (place_from d z (earlier ++ (d, y) ∷ []) ys)
  where
    next : List (ℕ × ℤ)
    next = earlier ++ (d, y) ∷ []

    count : length earlier + 1 ≡ length next
    count = sym (length-append earlier ((d, y) ∷ []))

    by_case : (b : Bool) → is_same y z ≡ b
        → position_from (λ x. is_same x z) (length next) ys ≡ first_case (if_child (d, z)) next (lent_by d ys)
        → cond b (Some (length earlier)) (position_from (λ x. is_same x z) (length earlier + 1) ys)
        ≡ or_else (if_child (d, z) earlier (d, y)) (first_case (if_child (d, z)) next (lent_by d ys))
    by_case true same rest =
        let one = this_one d (length earlier) z y earlier same refl in
        sym (ap (λ o. or_else o (first_case (if_child (d, z)) next (lent_by d ys))) one)
    by_case false other rest =
        ap (λ (n : ℕ). position_from (λ x. is_same x z) n ys) count ∙ rest
        ∙ sym (ap (λ o. or_else o (first_case (if_child (d, z)) next (lent_by d ys))) (not_this d z y earlier other))

-- the place of a colour in the list of domain d
pub place_in_list : (d : ℕ) (z : ℤ) (xs : List ℤ)
    → first_in (if_child (d, z)) (lent_by d xs) ≡ position (λ y. is_same y z) xs
place_in_list d z xs = sym (position_from-zero (λ y. is_same y z) xs ∙ place_from d z [] xs)

-- ---- sums of the code

-- what is lent before a domain, and in its list up to a place, is less than all that is lent
pub less_than_all : {A : Type 0} (g : A → LendingDomain) (xs : List A) (d : ℕ) (x e : A) → d < length xs
    → x ≡ get_or xs d e
    → length (said (map g (take d xs))) + length (g x).lend ≤ length (said (map g xs))
less_than_all g xs d x e below is =
    let before = said (map g (take d xs)) in
    let own = lent_by d (g x).lend in
    let rest = lent_from (d + 1) (map g (drop (d + 1) xs)) in
    let all : length (said (map g xs)) ≡ length before + (length own + length rest) =
    ap length (halves_of g xs d)
    ∙ length-append before (lent_from d (map g (drop d xs)))
    ∙ ap (λ (n : ℕ). length before + n)
    (ap (λ ys. length (lent_from d (map g ys))) (drop_more xs d e below ∙ ap (λ y. y ∷ drop (d + 1) xs) (sym is))
    ∙ length-append own rest) in
    omega (arith, all, length-map (g x).lend (pair d))

-- so a child's number is that of a party
pub number_below : {A : Type 0} (g : A → LendingDomain) (xs : List A) (d : ℕ) (x e : A) (k : ℕ) → d < length xs
    → x ≡ get_or xs d e → k < length (g x).lend → parties (map g xs) ≤ 32
    → length xs + length (said (map g (take d xs))) + k < 32
number_below g xs d x e k below is within few =
    omega (arith, less_than_all g xs d x e below is, within, few, length-map xs g)

-- ---- whose an entry is

pub own_entry : (domains : List LendingDomain) (e : LendingEntry) (n : ℕ) → n ≡ natural_of e.domain
    → natural_of e.domain < length domains → e.lend ≡ None
    → Some n ≡ number_of domains (party_of e)
unfolding number_of
own_entry domains e n is l none =
    let test : nat_lt (natural_of e.domain) (length domains) ≡ true = grind (arith, nat_tests, l) in
    rw (none, test) (ap Some is)

pub childs_entry : (domains : List LendingDomain) (e : LendingEntry) (d : ℕ) (x : ℤ) → d ≡ natural_of e.domain
    → e.lend ≡ Some x
    → child_number domains d x ≡ number_of domains (party_of e)
unfolding number_of
childs_entry domains e d x is some = rw some (ap (λ (n : ℕ). child_number domains n x) is)
