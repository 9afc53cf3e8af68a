-- Sets fill in the order of their ways, and none of these is emptied by itself.
use Rattle.std.proofs.Common.{◌≡◌, ◌≢◌, ℕ, zero, suc, ◌+◌, ◌<◌, ◌≤◌, Bool, true, false, cond, ltb, List, [], map, length, get_or, set, Option, Some, None, is_some, replicate, refl, ap, sym, subst, ◌∙◌, arith, inl, inr, unwrap_or, get_or-set_same, get_or-set_other}
use Rattle.std.proofs.Math.ListN.{length-map}
use Rattle.std.proofs.lemmas.List.{get_or_default, get_or_past, get_or-map}
use Rattle.std.proofs.lemmas.List.Quantifiers.{position-Some}
use Rattle.std.proofs.lemmas.List.Sums.{position_or_len_is, fails_before_first}
use Rattle.std.proofs.lemmas.Bool.{cases_eq, cases_lt, false≢true}
use Rattle.std.proofs.lemmas.Bool.Decides.{nat_tests}
use Rattle.std.specs.Prelude.{position, is_none}
use Rattle.std.specs.List.{position_or_len}
use Rattle.set_cache.specs.declared.KeptLine.{KeptLine}
use Rattle.set_cache.specs.Cache.{is_line}
use Rattle.set_cache.specs.Contents.{AreFirst}
use Rattle.set_cache.proofs.Vectors.{position-map}

some_of : {A : Type 0} (o : Option A) → is_none o ≡ false → is_some o ≡ true
some_of None t = absurd (false≢true (sym t))
some_of (Some x) t = refl

none_of : {A : Type 0} (o : Option A) → is_some o ≡ true → is_none o ≡ false
none_of None t = absurd (false≢true t)
none_of (Some x) t = refl

pub some_where : {A : Type 0} (o : Option A) (empty : Bool) → empty ≡ is_none o → empty ≡ false
    → is_some o ≡ true
some_where o empty is not = some_of o (sym is ∙ not)

-- where no element passes
passes_none : {A : Type 0} (p : A → Bool) (xs : List A) (d : A) → position p xs ≡ None
    → (k : ℕ) → k < length xs → p (get_or xs k d) ≡ false
passes_none p xs d missing k within =
    let at : ℕ = position_or_len p xs in
    elim (cases_lt k at) [
      | inl lt ↦ fails_before_first p xs k d lt
      | inr ge ↦
          let t : ltb at (length xs) ≡ true = grind (arith, nat_tests) in
          let e : Some at ≡ None = subst (λ b. cond b (Some at) None ≡ None) t missing in
          absurd (cc)
    ]

pub none_passes : {A : Type 0} (p : A → Bool) (xs : List A) (d : A)
    → ((k : ℕ) → k < length xs → p (get_or xs k d) ≡ false) → position p xs ≡ None
none_passes p xs d fails =
    let at : position_or_len p xs ≡ length xs =
    position_or_len_is p xs (length xs) d (omega arith) (λ k below. fails k below) (λ lt. absurd (omega arith)) in
    let t : ltb (length xs) (length xs) ≡ false = grind (arith, nat_tests) in
    rw (at, t)

-- where one does, and none before it
pub passes_first : {A : Type 0} (p : A → Bool) (xs : List A) (d : A) (i : ℕ) → i < length xs
    → p (get_or xs i d) ≡ true → ((k : ℕ) → k < i → p (get_or xs k d) ≡ false) → position p xs ≡ Some i
passes_first p xs d i within here before =
    let at : position_or_len p xs ≡ i =
    position_or_len_is p xs i d (omega (arith, within)) (λ k below. before k below) (λ _. here) in
    let t : ltb i (length xs) ≡ true = grind (arith, nat_tests) in
    rw (at, t)

-- one more element fails
pub fails_more : {A : Type 0} (p : A → Bool) (xs : List A) (n : ℕ) (e : A) → n < length xs
    → p (get_or xs n e) ≡ false
    → ((k : ℕ) (d : A) → k < n → p (get_or xs k d) ≡ false) → (k : ℕ) (d : A) → k < n + 1 → p (get_or xs k d) ≡ false
fails_more p xs n e within here before k d below =
    elim (cases_lt k n) [
      | inl lt ↦ before k d lt
      | inr ge ↦ let same : k ≡ n = omega (arith, below, ge) in
          ap (λ i. p (get_or xs i d)) same ∙ ap p (get_or_default xs n d e within) ∙ here
    ]

-- nothing stands in a fresh set
abbrev nothing : Option KeptLine
nothing = None

none_kept : (ways k : ℕ) → is_some (get_or (replicate ways nothing) k nothing) ≡ false
none_kept zero k = ap is_some (get_or_past [] k nothing (omega arith))
none_kept (suc ways) zero = refl
none_kept (suc ways) (suc k) = none_kept ways k

pub first_fresh : (ways : ℕ) → AreFirst (replicate ways None)
first_fresh ways way kept = absurd (false≢true (sym (none_kept ways (way + 1)) ∙ kept))

module _ (places : List (Option KeptLine)) where
  -- a line comes into a way that none of the empty ones is before
  pub first_put : (way : ℕ) (line : KeptLine) → way < length places → AreFirst places
      → ((k : ℕ) → k < way → is_some (get_or places k None) ≡ true) → AreFirst (set places way (Some line))
  first_put way line within first before k kept =
      elim (cases_eq k way) [
        | inl same ↦ rw (same, get_or-set_same places way (Some line) None within) refl
        | inr apart ↦
            rw (get_or-set_other places way k (Some line) None apart)
            (elim (cases_eq (k + 1) way) [
              | inl next ↦ before k (omega (arith, next))
              | inr other ↦ first k
                  (subst (λ (o : Option KeptLine). is_some o ≡ true)
                  (get_or-set_other places way (k + 1) (Some line) None other) kept)
            ])
      ]

  -- all the ways before one that keeps a line keep one
  pub kept_before_way : AreFirst places → (way : ℕ) → is_some (get_or places way None) ≡ true
      → (k : ℕ) → k ≤ way → is_some (get_or places k None) ≡ true
  kept_before_way first zero kept k le =
      subst (λ (j : ℕ). is_some (get_or places j None) ≡ true) (let e : 0 ≡ k = omega (arith, le) in e) kept
  kept_before_way first (suc way) kept k le =
      elim (cases_eq k (suc way)) [
        | inl same ↦ subst (λ (j : ℕ). is_some (get_or places j None) ≡ true) (sym same) kept
        | inr apart ↦ kept_before_way first way
            (first way (subst (λ (j : ℕ). is_some (get_or places j None) ≡ true)
            (let e : suc way ≡ way + 1 = omega arith in e) kept))
            k (omega (arith, le, apart))
      ]

  -- and so do those before the one that a miss takes
  pub kept_before_chosen : (way victim : ℕ) → way < length places
      → way ≡ unwrap_or (position is_none places) victim
      → (k : ℕ) → k < way → is_some (get_or places k None) ≡ true
  kept_before_chosen way victim within chosen k before = of (position is_none places) refl
    where
      of : (found : Option ℕ) → position is_none places ≡ found → is_some (get_or places k None) ≡ true
      of (Some w) e =
          let at : way ≡ w = chosen ∙ ap (λ (o : Option ℕ). unwrap_or o victim) e in
          some_of (get_or places k None) ((position-Some is_none places w None e).2 k (omega (arith, before, at)))
      of None e = some_of (get_or places k None) (passes_none is_none places None e k (omega (arith, before, within)))

-- where the last one keeps a line no way is empty
pub none_empty : {A : Type 0} (line : A → Option KeptLine) (entries : List A) (d : A) (n : ℕ)
    → AreFirst (map line entries) → length entries ≡ n + 1 → is_some (line (get_or entries n d)) ≡ true
    → position (λ entry. is_none (line entry)) entries ≡ None
none_empty line entries d n first count kept =
    let places : List (Option KeptLine) = map line entries in
    let long : length places ≡ length entries = length-map entries line in
    let last : is_some (get_or places n None) ≡ true =
    ap is_some (get_or-map line entries n d None (omega (arith, count))) ∙ kept in
    sym (position-map is_none line entries)
    ∙ none_passes is_none places None
    (λ k within. none_of (get_or places k None) (kept_before_way places first n last k (omega (arith, within, long, count))))

-- a way that keeps nothing keeps no line
nothing_kept : (number : ℕ) (o : Option KeptLine) → is_some o ≢ true → is_line number o ≡ false
nothing_kept number None t = refl
nothing_kept number (Some line) t = absurd (t refl)

-- where a way keeps nothing, and none before it this line, none does
pub none_after : {A : Type 0} (line : A → Option KeptLine) (entries : List A) (d : A) (number way : ℕ)
    → AreFirst (map line entries) → way < length entries → is_none (line (get_or entries way d)) ≡ true
    → ((k : ℕ) → k < way → is_line number (line (get_or entries k d)) ≡ false)
    → position (λ entry. is_line number (line entry)) entries ≡ None
none_after line entries d number way first within empty before =
    none_passes (λ entry. is_line number (line entry)) entries d (λ k below. elim (cases_lt k way) [
      | inl lt ↦ before k lt
      | inr ge ↦ nothing_kept number (line (get_or entries k d)) (λ kept.
          let at : (j : ℕ) → j < length entries → get_or (map line entries) j None ≡ line (get_or entries j d) =
          λ j under. get_or-map line entries j d None under in
          let here : is_some (line (get_or entries way d)) ≡ true =
          ap is_some (sym (at way within))
          ∙ kept_before_way (map line entries) first k (ap is_some (at k below) ∙ kept) way (omega (arith, ge)) in
          false≢true (sym (none_of (line (get_or entries way d)) here) ∙ empty))
    ])
