-- The cases of a lent colour, in natural numbers.
use Rattle.std.proofs.Common.{◌≡◌, ℕ, ◌-◌, ◌<◌, ◌≤◌, Bool, true, false, ◌||◌, List, [], ◌∷◌, length, map, get_or, refl, sym, ap₂, subst, ◌∙◌, arith, ◌⊎◌, inl, inr, true≢false}
use Rattle.std.specs.Prelude.{ℤ, pos, negsuc, nat_eq}
use Rattle.std.proofs.lemmas.Bool.{cases_lt}
use Rattle.std.proofs.lemmas.Bool.Decides.{nat_tests}
use Rattle.std.proofs.lemmas.List.{get_or_past, get_or_default}
use Rattle.std.proofs.lemmas.List.Folds.{list_any_at, list_any_none}
use Rattle.frame_colours.specs.Colours.{has}
use Rattle.image_record.specs.Numbers.{natural_of, is_same, names}
use Rattle.image_record.specs.Cases.{outside}
use Rattle.image_record.proofs.Ranges.{inside}
use Rattle.lend_check.specs.Lending.{LendingDomain, no_domain, domain_at, in_naturals}
use Rattle.lend_check.specs.Rule.{is_own, is_lent, is_barred}
use Rattle.lend_check.specs.Laws.{MayBeLent}

-- ---- integers from 1 on are the same where their natural numbers are

same_natural : (x y : ℤ) → 1 ≤ natural_of x → nat_eq (natural_of y) (natural_of x) ≡ is_same y x
same_natural (pos n) (pos m) some = grind (arith, nat_tests)
same_natural (pos n) (negsuc m) some = grind (arith, nat_tests, some)
same_natural (negsuc n) y some = absurd (omega (arith, some))

pub has_names : (ys : List ℤ) (x : ℤ) → 1 ≤ natural_of x → has (map natural_of ys) (natural_of x) ≡ names ys x
has_names [] x some = refl
has_names (y ∷ ys) x some = ap₂ (λ b c. b || c) (same_natural x y some) (has_names ys x some)

pub has_lent : (ls : List (ℕ × ℤ)) (x : ℤ) → 1 ≤ natural_of x
    → has (map (λ (l : ℕ × ℕ). l.1) (map in_naturals ls)) (natural_of x) ≡ is_lent ls x
has_lent [] x some = refl
has_lent (l ∷ ls) x some = ap₂ (λ b c. b || c) (same_natural x l.1 some) (has_lent ls x some)

-- ---- nobody's own

own_at : (domains : List LendingDomain) (x : ℤ) → is_own domains x ≡ false → (d : ℕ)
    → names (domain_at domains d).colours x ≡ false
own_at domains x none d = either (cases_lt d (length domains))
  where
    P : LendingDomain → Type 0
    P o = names o.colours x ≡ false

    by_case : d < length domains → (b : Bool) → names (domain_at domains d).colours x ≡ b → b ≡ false
    by_case l true is = absurd (true≢false (sym (list_any_at (λ o. names o.colours x) domains d no_domain l is) ∙ none))
    by_case l false is = refl

    either : (d < length domains) ⊎ (length domains ≤ d) → names (domain_at domains d).colours x ≡ false
    either (inl l) = by_case l (names (domain_at domains d).colours x) refl
    either (inr past) = subst P (sym (get_or_past domains d no_domain past)) refl

own_none : (domains : List LendingDomain) (x : ℤ) → ((d : ℕ) → names (domain_at domains d).colours x ≡ false)
    → is_own domains x ≡ false
own_none domains x none = list_any_none (λ o. names o.colours x) domains (λ d e l. at d e l)
  where
    at : (d : ℕ) (e : LendingDomain) → d < length domains → names (get_or domains d e).colours x ≡ false
    at d e l =
        let P : LendingDomain → Type 0 = λ o. names o.colours x ≡ false in
        subst P (get_or_default domains d no_domain e l) (none d)

-- ---- what is barred, and what may be lent

or_false : (a b c : Bool) → (a || (b || c)) ≡ false → (a ≡ false) × ((b ≡ false) × (c ≡ false))
or_false true b c h = cc
or_false false true c h = cc
or_false false false true h = cc
or_false false false false h = (refl, (refl, refl))

in_range : (colours : ℕ) (x : ℤ) → 0 < natural_of x → natural_of x < colours
    → outside (pos 1) (pos (colours - 1)) x ≡ false
in_range colours (pos n) some l = grind (arith, nat_tests, some, l)
in_range colours (negsuc n) some l = absurd (omega (arith, some))

pub may_be_lent : (colours : ℕ) (domains : List LendingDomain) (earlier : List (ℕ × ℤ)) (x : ℤ)
    → is_barred colours domains earlier x ≡ false
    → MayBeLent colours domains (map in_naturals earlier) (natural_of x)
may_be_lent colours domains earlier x free =
    let parts = or_false (outside (pos 1) (pos (colours - 1)) x) (is_own domains x) (is_lent earlier x) free in
    let range = inside 1 (colours - 1) x parts.0 in
    let some : 1 ≤ natural_of x = range.least in
    record {
      some = some;
      range = omega (arith, range.least, range.most);
      unowned = λ d. has_names (domain_at domains d).colours x some ∙ own_at domains x parts.1.0 d;
      new = has_lent earlier x some ∙ parts.1.1;
    }

pub not_barred : (colours : ℕ) (domains : List LendingDomain) (earlier : List (ℕ × ℤ)) (x : ℤ)
    → MayBeLent colours domains (map in_naturals earlier) (natural_of x)
    → is_barred colours domains earlier x ≡ false
not_barred colours domains earlier x may =
    let some : 1 ≤ natural_of x = may.some in
    let range = in_range colours x may.some may.range in
    let own = own_none domains x (λ d. sym (has_names (domain_at domains d).colours x some) ∙ may.unowned d) in
    let new = sym (has_lent earlier x some) ∙ may.new in
    rw (range, own, new) refl
