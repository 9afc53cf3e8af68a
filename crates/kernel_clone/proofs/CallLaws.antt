-- Which calls may be made, bit by bit.
use Rattle.std.proofs.Common.{◌≡◌, ◌∙◌, ◌<◌, ◌≤◌, ◌+◌, ◌-◌, ◌*◌, ◌/◌, ◌%◌, ◌^◌, ℕ, zero, suc, Bool, true, false, refl, ap, sym, subst, arith, add-one, lit≤, inl, inr, ne_eqb}
use Rattle.std.specs.Prelude.{nat_eq, not, ◌&&◌, ◌||◌, if◌then◌else◌}
use Rattle.std.proofs.lemmas.Bool.{cases_lt, lt-leb}
use Rattle.std.proofs.lemmas.Nat.{pow-add, pow_pos, div-mul-add}
use Rattle.std.proofs.Math.Nat.{pow-suc, add-mul-div_left, div-eq_of_lt}
use Rattle.std.proofs.Math.Pow.{pow_mono}
use Rattle.kernel_clone.specs.Permissions.{is_mail, is_call, calls_end, may_make, calls_below, without_mail, EveryCallLaw, CallsLaw, WithoutMailLaw}

pub few_below : (test : ℕ → Bool) (n : ℕ) → calls_below test n < 2 ^ n
unfolding calls_below
few_below test zero = lit≤ tt
few_below test (suc n) =
    let below = few_below test n in
    let double : 2 ^ suc n ≡ 2 ^ n * 2 = pow-suc 2 n in
    let one : (if test n then 2 ^ n else 0) ≤ 2 ^ n =
    elim (test n) as (λ b. (if b then 2 ^ n else 0) ≤ 2 ^ n) [ true ↦ omega arith | false ↦ omega arith ] in
    omega (arith, below, double, one)

-- with one number more
pub bits_more : (test : ℕ → Bool) (n : ℕ)
    → calls_below test (n + 1) ≡ calls_below test n + (if test n then 2 ^ n else 0)
unfolding calls_below
bits_more test n = ap (calls_below test) (add-one n)

pub bits_fit : (test : ℕ → Bool) (n calls bit : ℕ) → n < calls_end → calls ≡ calls_below test n
    → bit ≡ (if test n then 2 ^ n else 0) → calls + bit < 2 ^ 32
bits_fit test n calls bit l e f =
    let more = bits_more test n in
    let few = few_below test (n + 1) in
    let most = pow_mono {i = n + 1} {j = calls_end} (omega (arith, l)) in
    omega (arith, e, f, more, few, most)

-- a bit above number n's doesn't matter to it
bit_above : (low n k : ℕ) (b : Bool) → n < k → may_make (low + (if b then 2 ^ k else 0)) n ≡ may_make low n
unfolding may_make
bit_above low n k false lt = let same : low + 0 ≡ low = omega arith in ap (λ (c : ℕ). nat_eq (c / 2 ^ n % 2) 1) same
bit_above low n k true lt =
    let rest : ℕ = 2 ^ (k - suc n) in
    let place : k ≡ suc n + (k - suc n) = omega (arith, lt) in
    let parts : 2 ^ k ≡ 2 ^ suc n * rest = ap (λ (m : ℕ). 2 ^ m) place ∙ pow-add 2 (suc n) (k - suc n) in
    let double : 2 ^ suc n * rest ≡ 2 ^ n * 2 * rest = ap (λ (m : ℕ). m * rest) (pow-suc 2 n) in
    let whole : low + 2 ^ k ≡ low + 2 ^ n * (2 * rest) = omega (arith, parts, double) in
    let row : (low + 2 ^ n * (2 * rest)) / 2 ^ n ≡ low / 2 ^ n + 2 * rest = add-mul-div_left low (2 * rest) {y = 2 ^ n} (pow_pos n) in
    let bit : (low / 2 ^ n + 2 * rest) % 2 ≡ low / 2 ^ n % 2 = omega arith in
    ap (λ (c : ℕ). nat_eq (c / 2 ^ n % 2) 1) whole ∙ (ap (λ (q : ℕ). nat_eq (q % 2) 1) row ∙ ap (λ (r : ℕ). nat_eq r 1) bit)

-- above numbers below 2^n, number n's bit is the lowest
bit_at : (low n : ℕ) (b : Bool) → low < 2 ^ n → may_make (low + (if b then 2 ^ n else 0)) n ≡ b
unfolding may_make
bit_at low n false few =
    let whole : low + 0 ≡ 0 * 2 ^ n + low = omega arith in
    ap (λ (c : ℕ). nat_eq (c / 2 ^ n % 2) 1) whole ∙ ap (λ (q : ℕ). nat_eq (q % 2) 1) (div-mul-add 0 (2 ^ n) low few)
bit_at low n true few =
    let whole : low + 2 ^ n ≡ 1 * 2 ^ n + low = omega arith in
    ap (λ (c : ℕ). nat_eq (c / 2 ^ n % 2) 1) whole ∙ ap (λ (q : ℕ). nat_eq (q % 2) 1) (div-mul-add 1 (2 ^ n) low few)

bits : (test : ℕ → Bool) (m n : ℕ) → n < m → may_make (calls_below test m) n ≡ test n
unfolding calls_below
bits test zero n lt = absurd (omega (arith, lt))
bits test (suc m) n lt = elim (cases_lt n m) [
  | inl below ↦ bit_above (calls_below test m) n m (test m) below ∙ bits test m n below
  | inr past ↦
      let same : m ≡ n = omega (arith, lt, past) in
      subst (λ (k : ℕ). may_make (calls_below test m + (if test m then 2 ^ m else 0)) k ≡ test k) same
      (bit_at (calls_below test m) m (test m) (few_below test m))
]

-- numbers below 2^m have no bit from m on
none_above : (low m n : ℕ) → low < 2 ^ m → m ≤ n → may_make low n ≡ false
unfolding may_make
none_above low m n few past =
    let most = pow_mono {i = m} {j = n} past in
    ap (λ (q : ℕ). nat_eq (q % 2) 1) (div-eq_of_lt {n = low} {m = 2 ^ n} (omega (arith, few, most)))

-- a test that no number from the end on passes
within : (test : ℕ → Bool) (m n : ℕ) → (m ≤ n → test n ≡ false) → may_make (calls_below test m) n ≡ test n
within test m n none = elim (cases_lt n m) [
  | inl below ↦ bits test m n below
  | inr past ↦ none_above (calls_below test m) m n (few_below test m) past ∙ sym (none past)
]

-- what is past the end is no call
no_call : (n : ℕ) → calls_end ≤ n → is_call n ≡ false
no_call n past =
    let low = lt-leb n 14 (omega (arith, past)) in
    let no_send = ne_eqb n 19 (λ e. omega (arith, e, past)) in
    let no_receive = ne_eqb n 20 (λ e. omega (arith, e, past)) in
    ap (λ (b : Bool). b || is_mail n) low ∙ (ap (λ (b : Bool). b || nat_eq n 20) no_send ∙ no_receive)

pub calls_are : CallsLaw
calls_are test n =
    within (λ k. is_call k && test k) calls_end n (λ past. ap (λ (b : Bool). b && test n) (no_call n past))

pub every_may : EveryCallLaw
every_may n = within is_call calls_end n (no_call n)

pub without_mail_are : WithoutMailLaw
without_mail_are calls n = calls_are (λ k. may_make calls k && not (is_mail k)) n

-- none may be made that might not be
pub mail_within : (calls n : ℕ) → may_make (without_mail calls) n ≡ true → may_make calls n ≡ true
mail_within calls n may = by_tests (is_call n) (may_make calls n) (sym (without_mail_are calls n) ∙ may)
  where
    by_tests : (b m : Bool) → (b && (m && not (is_mail n))) ≡ true → m ≡ true
    by_tests b true all = refl
    by_tests true false all = absurd (cc all)
    by_tests false false all = absurd (cc all)

-- of two numbers of which one is a call's, one is not the other
pub differ : (m n : ℕ) (b : Bool) → is_call m ≡ b → is_call n ≡ not b → nat_eq m n ≡ false
differ m n true is other = ne_eqb m n (λ e. let same = sym is ∙ (ap is_call e ∙ other) in absurd (cc same))
differ m n false is other = ne_eqb m n (λ e. let same = sym is ∙ (ap is_call e ∙ other) in absurd (cc same))
