-- Lists of domains of which all but some are emptied, and what each rule asks of one domain after the other.
use Rattle.std.proofs.Common.{◌≡◌, ℕ, zero, suc, ◌+◌, ◌<◌, ◌≤◌, ◌||◌, Bool, true, false, List, [], ◌∷◌, ◌++◌, length, get_or, Option, None, refl, sym, ap, ap₂, subst, ◌∙◌, true≢false, arith}
use Rattle.std.specs.Str.{bytes_eq}
use Rattle.std.proofs.lemmas.Slice.Eq.{bytes_eq-Decides}
use Rattle.image_record.specs.Record.{RawDomain, no_raw_domain}
use Rattle.image_record.specs.Cases.{or_else, first_case}
use Rattle.image_record.proofs.FirstCases.{or_first, or_rest}
use Rattle.image_redact.specs.Redacted.{is_among, is_taken, names_from, emptied, redacted_at, redacted_from}

pub neither : {A : Type 0} (a b : Option A) → a ≡ None → b ≡ None → or_else a b ≡ None
neither a b none_a none_b = rw (none_a, none_b)

-- what passes one test passes the other
pub cases_kept : {A R : Type 0} (f g : List A → A → Option R)
    → ((earlier : List A) (x : A) → f earlier x ≡ None → g earlier x ≡ None)
    → (earlier xs : List A) → first_case f earlier xs ≡ None → first_case g earlier xs ≡ None
cases_kept f g from earlier [] h = refl
cases_kept f g from earlier (x ∷ xs) h =
    neither (g earlier x) _ (from earlier x (or_first (f earlier x) _ h))
    (cases_kept f g from (earlier ++ x ∷ []) xs (or_rest (f earlier x) _ h))

-- what holds of each domain by its number
abbrev pub Placed : (ℕ → RawDomain → Type 0) → ℕ → List RawDomain → Type 0
Placed P n [] = Unit {0}
Placed P n (o ∷ os) = P n o × Placed P (n + 1) os

placed_more : (P : ℕ → RawDomain → Type 0) (n : ℕ) (os : List RawDomain) (o : RawDomain) → Placed P n os
    → P (n + length os) o → Placed P n (os ++ o ∷ [])
placed_more P n [] o all here = let e : n + 0 ≡ n = omega arith in (subst (λ k. P k o) e here, tt)
placed_more P n (x ∷ os) o all here =
    let e : n + suc (length os) ≡ (n + 1) + length os = omega arith in
    (all.0, placed_more P (n + 1) os o all.1 (subst (λ k. P k o) e here))

pub placed_each : (P : ℕ → RawDomain → Type 0) (none : RawDomain) (n : ℕ) (os : List RawDomain)
    → ((k : ℕ) → k < length os → P (n + k) (get_or os k none)) → Placed P n os
placed_each P none n [] each = tt
placed_each P none n (o ∷ os) each =
    let e : n + 0 ≡ n = omega arith in (
      subst (λ k. P k o) e (each 0 (omega arith)),
      placed_each P none (n + 1) os
          (λ k l. (
          let next : n + suc k ≡ (n + 1) + k = omega arith in
          subst (λ m. P m (get_or os k none)) next (each (suc k) (omega (arith, l))))),
    )

moved : {b : Bool} (kept : List Bool) (m n : ℕ) → m ≡ n → is_among kept m ≡ b → is_among kept n ≡ b
moved kept m n same e = ap (is_among kept) (sym same) ∙ e

-- there are no more names than domains
pub few_names : (kept : List Bool) (n : ℕ) (os : List RawDomain) → length (names_from kept n os) ≤ length os
few_names kept n [] = omega arith
few_names kept n (o ∷ os) = by_test (is_among kept n) refl (few_names kept (n + 1) os)
  where
    by_test : (b : Bool) → is_among kept n ≡ b → length (names_from kept (n + 1) os) ≤ length os
        → length (names_from kept n (o ∷ os)) ≤ length (o ∷ os)
    by_test true e rest = rw e (omega (arith, rest))
    by_test false e rest = rw e (omega (arith, rest))

-- the name of each that is kept is one of them
pub its_name : (kept : List Bool) (n k : ℕ) (os : List RawDomain) → k < length os → is_among kept (n + k) ≡ true
    → is_taken (names_from kept n os) (get_or os k no_raw_domain).name ≡ true
its_name kept n k [] l is = absurd (omega (arith, l))
its_name kept n zero (o ∷ os) l is =
    let here : is_among kept n ≡ true = moved kept (n + 0) n (omega arith) is in
    let same : bytes_eq o.name o.name ≡ true = (bytes_eq-Decides o.name o.name).1 refl in
    rw (here, same) refl
its_name kept n (suc k) (o ∷ os) l is =
    by_test (is_among kept n) refl
    (its_name kept (n + 1) k os (omega (arith, l)) (moved kept (n + suc k) ((n + 1) + k) (omega arith) is))
  where
    later : (b : Bool) → b || true ≡ true
    later true = refl
    later false = refl

    by_test : (b : Bool) → is_among kept n ≡ b
        → is_taken (names_from kept (n + 1) os) (get_or os k no_raw_domain).name ≡ true
        → is_taken (names_from kept n (o ∷ os)) (get_or os k no_raw_domain).name ≡ true
    by_test true e rest = rw (e, rest) (later (bytes_eq o.name (get_or os k no_raw_domain).name))
    by_test false e rest = rw (e, rest) refl

module _ (v : ℕ) (kept : List Bool) (taken : List (List ℕ)) where
  abbrev pub at : ℕ → RawDomain → RawDomain
  at n o = redacted_at v kept taken n o

  abbrev pub from : ℕ → List RawDomain → List RawDomain
  from n os = redacted_from v kept taken n os

  -- what holds of a kept domain and of an emptied one
  by_test : (b : Bool) (P : RawDomain → Type 0) (n : ℕ) (o : RawDomain) → is_among kept n ≡ b
      → (is_among kept n ≡ true → P o) → (is_among kept n ≡ false → P (emptied v taken n o)) → P (at n o)
  by_test true P n o e here there = rw e (here e)
  by_test false P n o e here there = rw e (there e)

  pub at_either : (P : RawDomain → Type 0) (n : ℕ) (o : RawDomain) → (is_among kept n ≡ true → P o)
      → (is_among kept n ≡ false → P (emptied v taken n o)) → P (at n o)
  at_either P n o here there = by_test (is_among kept n) P n o refl here there

  pub same_length : (n : ℕ) (os : List RawDomain) → length (from n os) ≡ length os
  same_length n [] = refl
  same_length n (o ∷ os) = let rest = same_length (n + 1) os in omega (arith, rest)

  one_more : (n : ℕ) (os : List RawDomain) (o : RawDomain)
      → from n (os ++ o ∷ []) ≡ from n os ++ at (n + length os) o ∷ []
  one_more n [] o = let e : n + 0 ≡ n = omega arith in ap (λ k. at k o ∷ []) (sym e)
  one_more n (x ∷ os) o =
      let e : (n + 1) + length os ≡ n + suc (length os) = omega arith in
      ap (λ rest. at n x ∷ rest) (one_more (n + 1) os o ∙ ap (λ k. from (n + 1) os ++ at k o ∷ []) e)

  -- a rule that each domain keeps is kept by each of the others
  pub all_kept : {R : Type 0} (P : ℕ → RawDomain → Type 0) (f : List RawDomain → RawDomain → Option R)
      → ((e : List RawDomain) (o : RawDomain) → Placed P 0 e → P (length e) o → f e o ≡ None
      → f (from 0 e) (at (length e) o) ≡ None)
      → (e os : List RawDomain) → Placed P 0 e → Placed P (length e) os → first_case f e os ≡ None
      → first_case f (from 0 e) (from (length e) os) ≡ None
  all_kept P f step e [] before after h = refl
  all_kept {R = R} P f step e (o ∷ os) before after h =
      let here = step e o before after.0 (or_first (f e o) _ h) in
      let longer : length (e ++ o ∷ []) ≡ length e + 1 = long e o in
      let zero_more : 0 + length e ≡ length e = omega arith in
      let placed = placed_more P 0 e o before (subst (λ k. P k o) (sym zero_more) after.0) in
      let rest =
      all_kept P f step (e ++ o ∷ []) os placed (subst (λ k. Placed P k os) (sym longer) after.1)
      (or_rest (f e o) _ h) in
      let more = one_more 0 e o ∙ ap (λ k. from 0 e ++ at k o ∷ []) zero_more in
      let moved : first_case f (from 0 e ++ at (length e) o ∷ []) (from (length e + 1) os) ≡ None =
      ap₂ (λ xs k. first_case f xs (from k os)) (sym more) (sym longer) ∙ rest in
      neither (f (from 0 e) (at (length e) o)) _ here moved
    where
      long : (xs : List RawDomain) (y : RawDomain) → length (xs ++ y ∷ []) ≡ length xs + 1
      long [] y = refl
      long (x ∷ xs) y = let more = long xs y in omega (arith, more)

  -- a kept domain is found at its place
  pub kept_at : (none : RawDomain) (n k : ℕ) (os : List RawDomain) → is_among kept (n + k) ≡ true
      → get_or (from n os) k none ≡ get_or os k none
  kept_at none n k [] e = refl
  kept_at none n zero (o ∷ os) e =
      at_either (λ x. x ≡ o) n o (λ here. refl)
      (λ other. absurd (true≢false (sym e ∙ moved kept n (n + 0) (omega arith) other)))
  kept_at none n (suc k) (o ∷ os) e = kept_at none (n + 1) k os (moved kept (n + suc k) ((n + 1) + k) (omega arith) e)

  -- and an emptied one at each other
  pub emptied_at : (none : RawDomain) (n k : ℕ) (os : List RawDomain) → k < length os → is_among kept (n + k) ≡ false
      → get_or (from n os) k none ≡ emptied v taken (n + k) (get_or os k none)
  emptied_at none n k [] l other = absurd (omega (arith, l))
  emptied_at none n zero (o ∷ os) l other =
      let e : n + 0 ≡ n = omega arith in
      at_either (λ x. x ≡ emptied v taken (n + 0) o) n o
      (λ here. absurd (true≢false (sym here ∙ moved kept (n + 0) n e other)))
      (λ there. ap (λ m. emptied v taken m o) (sym e))
  emptied_at none n (suc k) (o ∷ os) l other =
      let e : (n + 1) + k ≡ n + suc k = omega arith in
      emptied_at none (n + 1) k os (omega (arith, l)) (moved kept (n + suc k) ((n + 1) + k) (sym e) other)
      ∙ ap (λ m. emptied v taken m (get_or os k none)) e

  -- their names are as they were
  pub same_names : (n : ℕ) (os : List RawDomain) → names_from kept n (from n os) ≡ names_from kept n os
  same_names n [] = refl
  same_names n (o ∷ os) = by_name (is_among kept n) n o os refl (same_names (n + 1) os)
    where
      by_name : (b : Bool) (n : ℕ) (o : RawDomain) (os : List RawDomain) → is_among kept n ≡ b
          → names_from kept (n + 1) (from (n + 1) os) ≡ names_from kept (n + 1) os
          → names_from kept n (from n (o ∷ os)) ≡ names_from kept n (o ∷ os)
      by_name true n o os e rest = rw (e, rest)
      by_name false n o os e rest = rw (e, rest)
