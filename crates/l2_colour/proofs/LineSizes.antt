-- The size of a line divides that of a frame, so it is a power of two.
use Rattle.std.proofs.Common.{◌≡◌, ℕ, zero, suc, ◌+◌, ◌*◌, ◌/◌, ◌%◌, ◌^◌, ◌<◌, ◌⊎◌, sym, subst, ap, ◌∙◌, arith, inl, inr}
use Rattle.std.specs.Int.{IsPowerOfTwo, w32, bit_at, trailing_zeros}
use Rattle.std.proofs.Math.Nat.{pow-suc, add-mul, mul-add}
use Rattle.std.proofs.lemmas.Bool.{cases_eq}
use Rattle.std.proofs.lemmas.Nat.Bits.{bit_at-trailing_zeros, bit_at-pow_other}
use Rattle.std.proofs.lemmas.Nat.{pow_pos}
use Rattle.l2_colour.specs.Colours.{IsColoured, lines_of}

-- a double
halves : (a n : ℕ) → (a + a) * n ≡ a * n + a * n
halves a n = add-mul a a n

odd_part : (a n : ℕ) → (a + a + 1) * n ≡ a * n + a * n + n
odd_part a n =
    let split = add-mul (a + a) 1 n in
    let double = halves a n in
    omega (arith, split, double)

twice : (q m : ℕ) → q * (m + m) ≡ q * m + q * m
twice q m = mul-add q m m

-- one of the factors of an even number is even
even_factor : (q n h : ℕ) → q * n ≡ h + h → (n ≡ n / 2 + n / 2) ⊎ (q ≡ q / 2 + q / 2)
even_factor q n h e =
    elim (cases_eq (n % 2) 0) [
      | inl even ↦ inl (omega (arith, even))
      | inr odd ↦
          elim (cases_eq (q % 2) 0) [
            | inl even ↦ inr (omega (arith, even))
            | inr odd_too ↦
                let whole : q ≡ q / 2 + q / 2 + 1 = omega (arith, odd_too) in
                let sum : q * n ≡ q / 2 * n + q / 2 * n + n = ap (λ (k : ℕ). k * n) whole ∙ odd_part (q / 2) n in
                absurd (omega (arith, sum, e, odd))
          ]
    ]

unit_factor : (q n : ℕ) → q * n ≡ 1 → n ≡ 1
unit_factor zero n e = absurd (let none : 0 * n ≡ 1 = e in omega (arith, none))
unit_factor (suc q) n e =
    let sum : suc q * n ≡ n + q * n = omega (arith, add-mul 1 q n) in
    elim (cases_eq n 0) [
      | inl none ↦ absurd (let product : suc q * n ≡ suc q * 0 = ap (λ (k : ℕ). suc q * k) none in omega (arith, product, e))
      | inr some ↦ omega (arith, sum, e, some)
    ]

divisor : (j q n : ℕ) → q * n ≡ 2 ^ j → IsPowerOfTwo n
divisor zero q n e = (0, unit_factor q n e)
divisor (suc j) q n e =
    let double : 2 ^ suc j ≡ 2 ^ j * 2 = pow-suc 2 j in
    elim (even_factor q n (2 ^ j) (omega (arith, e, double))) [
      | inl even ↦
          let product : q * n ≡ q * (n / 2) + q * (n / 2) = ap (λ (k : ℕ). q * k) even ∙ twice q (n / 2) in
          let half : IsPowerOfTwo (n / 2) = divisor j q (n / 2) (omega (arith, product, e, double)) in
          (suc half.0, (let more : 2 ^ suc half.0 ≡ 2 ^ half.0 * 2 = pow-suc 2 half.0 in omega (arith, half.1, more, even)))
      | inr even ↦
          let product : q * n ≡ q / 2 * n + q / 2 * n = ap (λ (k : ℕ). k * n) even ∙ halves (q / 2) n in
          divisor j (q / 2) n (omega (arith, product, e, double))
    ]

-- of a power of two the lowest set bit is its exponent
exponent : (k n : ℕ) → n ≡ 2 ^ k → n < 2 ^ 32 → trailing_zeros w32 n ≡ k
exponent k n is small =
    let some : 0 < n = subst (λ (m : ℕ). 0 < m) (sym is) (pow_pos k) in
    let lowest = bit_at-trailing_zeros w32 n some small in
    elim (cases_eq (trailing_zeros w32 n) k) [
      | inl same ↦ same
      | inr other ↦
          let set : bit_at n (trailing_zeros w32 n) ≡ 1 = lowest.1 in
          let clear : bit_at n (trailing_zeros w32 n) ≡ 0 =
          ap (λ (m : ℕ). bit_at m (trailing_zeros w32 n)) is
          ∙ bit_at-pow_other k (trailing_zeros w32 n) other in
          absurd (let none : 0 ≡ 1 = sym clear ∙ set in omega (arith, none))
    ]

-- what the lowest set bit of a line's size tells
pub size_is : (line_size sets : ℕ) → IsColoured line_size sets → line_size < 2 ^ 32
    → (line_size ≡ 2 ^ trailing_zeros w32 line_size) × (trailing_zeros w32 line_size < 32)
size_is line_size sets coloured small =
    let power : IsPowerOfTwo line_size = divisor 12 (lines_of line_size) line_size coloured.whole_lines in
    let same : trailing_zeros w32 line_size ≡ power.0 = exponent power.0 line_size power.1 small in
    let some : 0 < line_size = subst (λ (m : ℕ). 0 < m) (sym power.1) (pow_pos power.0) in
    (power.1 ∙ ap (λ (k : ℕ). 2 ^ k) (sym same), (bit_at-trailing_zeros w32 line_size some small).0)
