-- How many binary digits a word has.
use Rattle.std.proofs.Common.{◌≡◌, ℕ, zero, suc, ◌+◌, ◌-◌, ◌*◌, ◌^◌, ◌<◌, ◌≤◌}
use Rattle.std.proofs.Common.{ap, subst, ◌∙◌, inl, inr, lit≤, arith}
use Rattle.std.proofs.Math.Nat.{pow-suc, pow-le-pow_right}
use Rattle.std.proofs.lemmas.Bool.{cases_lt, cases_order, lt-ltb, le-ltb}
use Rattle.std.proofs.lemmas.Nat.{leading_length}
use Rattle.std.specs.Int.{w32, leading_zeros}
use Rattle.rv_core.specs.Products.{least_power, digits_of}

pub record IsDigits (n d : ℕ) : Type 0 where
  pub above : n < 2 ^ d
  pub least : 0 < d → 2 ^ (d - 1) ≤ n

-- the search begins at a d that is not beyond the least
pub least_power-is : (tries d n : ℕ) → n < 2 ^ (d + tries) → (0 < d → 2 ^ (d - 1) ≤ n)
    → IsDigits n (least_power tries d n)
unfolding least_power
least_power-is zero d n above least =
    record { above = subst (λ (k : ℕ). n < 2 ^ k) (omega arith) above; least = least }
least_power-is (suc tries) d n above least = elim (cases_lt n (2 ^ d)) [
  | inl lt ↦ rw (lt-ltb n (2 ^ d) lt) (record { above = lt; least = least })
  | inr ge ↦
      let same : d ≡ suc d - 1 = omega arith in
      let next = subst (λ (k : ℕ). n < 2 ^ k) (omega arith) above in
      let low = subst (λ (k : ℕ). 2 ^ k ≤ n) same ge in
      rw (le-ltb n (2 ^ d) ge) (least_power-is tries (suc d) n next (λ _. low))
]

pub least_power-few : (tries d n : ℕ) → least_power tries d n ≤ d + tries
unfolding least_power
least_power-few zero d n = omega arith
least_power-few (suc tries) d n = elim (cases_lt n (2 ^ d)) [
  | inl lt ↦ rw (lt-ltb n (2 ^ d) lt) (omega arith)
  | inr ge ↦ rw (le-ltb n (2 ^ d) ge) (omega (arith, least_power-few tries (suc d) n))
]

not-less : (n d e : ℕ) → IsDigits n d → IsDigits n e → ¬ (d < e)
not-less n d e p q h =
    let low : 2 ^ (e - 1) ≤ n = q.least (omega arith) in
    let up : 2 ^ d ≤ 2 ^ (e - 1) = let le : d ≤ e - 1 = omega arith in pow-le-pow_right (lit≤ tt) le in
    let above = p.above in
    absurd (omega arith)

same-digits : (n d e : ℕ) → IsDigits n d → IsDigits n e → d ≡ e
same-digits n d e p q = elim (cases_order d e) [
  | inl same ↦ same
  | inr (inl less) ↦ absurd (not-less n d e p q less)
  | inr (inr less) ↦ absurd (not-less n e d q p less)
]

pub digits_of-is : (n : ℕ) → n < 2 ^ 32 → IsDigits n (digits_of n)
digits_of-is n fits = least_power-is 32 0 n fits (λ h. absurd (omega arith))

pub digits_of-least : (n : ℕ) → n < 2 ^ 32 → 0 < n → 2 ^ (digits_of n - 1) ≤ n
digits_of-least n fits some =
    let digits = digits_of-is n fits in
    let none : ¬ (digits_of n ≡ 0) = λ e.
    let low : n < 2 ^ 0 = subst (λ (k : ℕ). n < 2 ^ k) e digits.above in
    omega arith in
    digits.least (omega arith)

-- what the machine counts from the top
pub digits_of-leading : (n : ℕ) → n < 2 ^ 32 → 32 - leading_zeros w32 n ≡ digits_of n
digits_of-leading n fits =
    let t = leading_length 32 n fits in
    let e : 32 - leading_zeros w32 n ≡ t.0 = let sum = t.1 in omega arith in
    let long = t.3 in
    let least : 0 < t.0 → 2 ^ (t.0 - 1) ≤ n = λ h.
    let one : t.0 ≡ suc (t.0 - 1) = omega arith in
    let twice : 2 ^ t.0 ≡ 2 ^ (t.0 - 1) * 2 = ap (λ k. 2 ^ k) one ∙ pow-suc 2 (t.0 - 1) in
    omega arith in
    e ∙ same-digits n t.0 (digits_of n) (record { above = t.2; least = least }) (digits_of-is n fits)
