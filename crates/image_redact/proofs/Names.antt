-- The names of emptied domains: each is a name, none is a kept one's, and no two are the same.
use Rattle.std.proofs.Common.{◌≡◌, ◌≢◌, ℕ, zero, suc, ◌+◌, ◌-◌, ◌*◌, ◌<◌, ◌≤◌, ◌^◌, Bool, true, false, ◌&&◌, List, [], ◌∷◌, length, drop, refl, sym, ap, ◌∙◌, inl, inr, true≢false, arith}
use Rattle.std.specs.Prelude.{nat_eq, if◌then◌else◌}
use Rattle.std.specs.Str.{bytes_eq}
use Rattle.std.specs.Fmt.{digits}
use Rattle.std.proofs.lemmas.Bool.{cases_Bool, and_parts, false_from_ne_true}
use Rattle.std.proofs.lemmas.Bool.Decides.{nat_tests}
use Rattle.std.proofs.lemmas.Fmt.{decimal_injective}
use Rattle.std.proofs.lemmas.Slice.Eq.{bytes_eq-Decides}
use Rattle.domain_check.specs.Names.{is_name}
use Rattle.image_redact.specs.Redacted.{is_taken, numbered, free_number, name_beside}
use Rattle.image_redact.specs.Laws.{NameLaw, ApartLaw}

pub bytes_differ : (s t : List ℕ) → s ≢ t → bytes_eq s t ≡ false
bytes_differ s t other = false_from_ne_true (bytes_eq s t) (λ same. other ((bytes_eq-Decides s t).0 same))

same_number : (m n : ℕ) → m < 2 ^ 64 → n < 2 ^ 64 → numbered m ≡ numbered n → m ≡ n
same_number m n small_m small_n same = decimal_injective m n small_m small_n (ap (drop 1) same)

-- ---- the names but one that is such

abbrev without : List ℕ → List (List ℕ) → List (List ℕ)
without name [] = []
without name (x ∷ xs) = if bytes_eq x name then xs else x ∷ without name xs

one_less : (name : List ℕ) (xs : List (List ℕ)) → is_taken xs name ≡ true → length (without name xs) + 1 ≡ length xs
one_less name [] taken = absurd (true≢false (sym taken))
one_less name (x ∷ xs) taken = by_test (bytes_eq x name) refl (one_less name xs)
  where
    by_test : (b : Bool) → bytes_eq x name ≡ b → (is_taken xs name ≡ true → length (without name xs) + 1 ≡ length xs)
        → length (without name (x ∷ xs)) + 1 ≡ length (x ∷ xs)
    by_test true e rest = rw e (omega arith)
    by_test false e rest = let less = rest (rw e at taken) in rw e (omega (arith, less))

still_taken : (name other : List ℕ) (xs : List (List ℕ)) → other ≢ name → is_taken xs other ≡ true
    → is_taken (without name xs) other ≡ true
still_taken name other [] apart taken = taken
still_taken name other (x ∷ xs) apart taken =
    by_test (bytes_eq x name) (bytes_eq x other) refl refl (still_taken name other xs apart)
  where
    by_test : (b c : Bool) → bytes_eq x name ≡ b → bytes_eq x other ≡ c
        → (is_taken xs other ≡ true → is_taken (without name xs) other ≡ true)
        → is_taken (without name (x ∷ xs)) other ≡ true
    by_test true true e f rest =
        absurd (apart (sym ((bytes_eq-Decides x other).0 f) ∙ (bytes_eq-Decides x name).0 e))
    by_test true false e f rest = let left : is_taken xs other ≡ true = rw f at taken in rw e left
    by_test false true e f rest = rw (e, f) refl
    by_test false false e f rest = rw (e, f) (rest (rw f at taken))

-- ---- of more numbers than there are names taken, one is free

-- the number of so many tries from n on
record IsFree (taken : List (List ℕ)) (more n : ℕ) : Type 0 where
  times : ℕ
  is : free_number taken more n ≡ n + 32 * times
  free : is_taken taken (numbered (n + 32 * times)) ≡ false
  least : (k : ℕ) → k < times → is_taken taken (numbered (n + 32 * k)) ≡ true
  few : times < more

-- the names that are taken by numbers from n on are all among these, which are fewer than the tries
abbrev IsIn : List (List ℕ) → ℕ → Type 0
IsIn names m = is_taken names (numbered m) ≡ true

-- the names that are taken by numbers from n on are all among some
abbrev Among : List (List ℕ) → List (List ℕ) → ℕ → Type 0
Among taken left n = (m : ℕ) → n ≤ m → m < 2 ^ 64 → IsIn taken m → IsIn left m

one_fewer : (taken left : List (List ℕ)) (n : ℕ) → n < 2 ^ 64 → Among taken left n
    → Among taken (without (numbered n) left) (n + 32)
one_fewer taken left n small among m after low its =
    still_taken (numbered n) (numbered m) left
    (λ equal. (let is_n = same_number m n low small equal in absurd (omega (arith, is_n, after))))
    (among m (omega (arith, after)) low its)

at_once : (taken : List (List ℕ)) (more n : ℕ) → is_taken taken (numbered n) ≡ false → IsFree taken (suc more) n
unfolding free_number
at_once taken more n e =
    let same : n + 32 * 0 ≡ n = omega arith in
    record {
      times = 0;
      is = rw e (sym same);
      free = ap (λ m. is_taken taken (numbered m)) same ∙ e;
      least = λ k l. absurd (omega (arith, l));
      few = omega arith;
    }

later : (taken : List (List ℕ)) (more n : ℕ) → IsIn taken n → IsFree taken more (n + 32) → IsFree taken (suc more) n
unfolding free_number
later taken more n e rest = record {
  times = suc rest.times;
  is = rw e (rest.is ∙ next rest.times);
  free = ap (λ m. is_taken taken (numbered m)) (sym (next rest.times)) ∙ rest.free;
  least = each;
  few = (let few = rest.few in omega (arith, few));
}
  where
    next : (k : ℕ) → n + 32 + 32 * k ≡ n + 32 * suc k
    next k = omega arith

    each : (k : ℕ) → k < suc rest.times → IsIn taken (n + 32 * k)
    each zero l = let same : n + 32 * 0 ≡ n = omega arith in ap (λ m. is_taken taken (numbered m)) same ∙ e
    each (suc k) l = ap (λ m. is_taken taken (numbered m)) (sym (next k)) ∙ rest.least k (omega (arith, l))

-- those are fewer than the tries
found : (taken left : List (List ℕ)) (more n : ℕ) → length left < more → n + 32 * more < 2 ^ 64 → Among taken left n
    → IsFree taken more n
found taken left zero n short small among = absurd (omega (arith, short))
found taken left (suc more) n short small among = elim (cases_Bool (is_taken taken (numbered n))) [
  | inr free ↦ at_once taken more n free
  | inl e ↦
      let low : n < 2 ^ 64 = omega (arith, small) in
      let less = one_less (numbered n) left (among n (omega arith) low e) in
      later taken more n e
      (found taken (without (numbered n) left) more (n + 32) (omega (arith, less, short)) (omega (arith, small))
      (one_fewer taken left n low among))
]

pub name_law : NameLaw
unfolding name_beside
name_law taken n few below =
    let it = found taken taken (length taken + 1) n (omega arith) (omega (arith, few, below)) (λ m after low is. is) in
    let is = ap numbered it.is in
    let times = it.few in
    record {
      times = it.times;
      is = is;
      free = ap (is_taken taken) is ∙ it.free;
      least = it.least;
      few = omega (arith, times);
    }

-- ---- none is a kept one's

pub not_taken : (taken : List (List ℕ)) (n : ℕ) (x : List ℕ) → length taken ≤ 32 → n < 32 → is_taken taken x ≡ true
    → name_beside taken n ≢ x
not_taken taken n x few below is same =
    true≢false (sym is ∙ ap (is_taken taken) (sym same) ∙ (name_law taken n few below).free)

-- ---- no two are the same

pub apart_law : ApartLaw
apart_law taken m n few below_m below_n other same =
    let a = name_law taken m few below_m in
    let b = name_law taken n few below_n in
    let few_a = a.few in
    let few_b = b.few in
    let equal =
    same_number (m + 32 * a.times) (n + 32 * b.times) (omega (arith, few, below_m, few_a)) (omega (arith, few, below_n, few_b))
    (sym a.is ∙ same ∙ b.is) in
    other (omega (arith, equal, below_m, below_n))

-- ---- each is a name

all_below : (ℕ → Bool) → ℕ → Bool
all_below p zero = true
all_below p (suc n) = p n && all_below p n

below : (p : ℕ → Bool) (m : ℕ) → all_below p m ≡ true → (n : ℕ) → n < m → p n ≡ true
unfolding all_below
below p zero all n l = absurd (omega (arith, l))
below p (suc m) all n l =
    let both = and_parts (p m) (all_below p m) all in
    elim (cases_Bool (nat_eq n m)) [
      | inl here ↦ let e : n ≡ m = grind (arith, nat_tests, here) in rw e both.0
      | inr there ↦ let less : n < m = grind (arith, nat_tests, there, l) in below p m both.1 n less
    ]

first_ones : all_below (λ n. is_name (numbered n)) 1056 ≡ true
unfolding all_below digits
first_ones = refl

pub a_name : (taken : List (List ℕ)) (n : ℕ) → length taken ≤ 32 → n < 32 → is_name (name_beside taken n) ≡ true
a_name taken n few low =
    let it = name_law taken n few low in
    let times = it.few in
    ap is_name it.is
    ∙ below (λ k. is_name (numbered k)) 1056 first_ones (n + 32 * it.times) (omega (arith, few, low, times))

-- ---- one try after the other

-- k numbers were tried, and this one is next
pub record AreTried (taken : List (List ℕ)) (n k number : ℕ) : Type 0 where
  pub few : k ≤ length taken + 1
  pub next : number ≡ n + 32 * k
  pub rest : (more : ℕ) → k + more ≡ length taken + 1
      → free_number taken more number ≡ free_number taken (length taken + 1) n

pub none_tried : (taken : List (List ℕ)) (n : ℕ) → AreTried taken n 0 n
none_tried taken n = record {
  few = omega arith;
  next = omega arith;
  rest = λ more all. ap (λ m. free_number taken m n) (let e : more ≡ length taken + 1 = omega (arith, all) in e);
}

pub more_tried : (taken : List (List ℕ)) (n k number : ℕ) → k < length taken + 1 → is_taken taken (numbered number) ≡ true
    → AreTried taken n k number → AreTried taken n (k + 1) (number + 32)
unfolding free_number
more_tried taken n k number less is h = record {
  few = omega (arith, less);
  next = (let next = h.next in omega (arith, next));
  rest = λ more all. sym (first more) ∙ h.rest (suc more) (omega (arith, all));
}
  where
    first : (more : ℕ) → free_number taken (suc more) number ≡ free_number taken more (number + 32)
    first more = rw is refl

pub free_tried : (taken : List (List ℕ)) (n k number : ℕ) → k < length taken + 1 → is_taken taken (numbered number) ≡ false
    → AreTried taken n k number → numbered number ≡ name_beside taken n
unfolding free_number name_beside
free_tried taken n k number less is h =
    ap numbered (sym first ∙ h.rest (suc (length taken - k)) (omega (arith, less)))
  where
    first : free_number taken (suc (length taken - k)) number ≡ number
    first = rw is refl

pub all_tried : (taken : List (List ℕ)) (n k number : ℕ) → length taken + 1 ≤ k → AreTried taken n k number
    → numbered number ≡ name_beside taken n
unfolding free_number name_beside
all_tried taken n k number end h =
    let few = h.few in
    ap numbered (h.rest 0 (omega (arith, end, few)))
