-- A line's size and a frame's lines as powers of two.
use Rattle.std.proofs.Common.{◌≡◌, ◌∙◌, ◌≤◌, ◌+◌, ◌-◌, ◌*◌, ◌/◌, ◌%◌, ◌^◌, ℕ, suc, ap, sym, subst, refl, arith, lit≤, inl, inr}
use Rattle.std.specs.Prelude.{bit_and}
use Rattle.std.specs.Int.{IsPowerOfTwo, w32, trailing_zeros}
use Rattle.std.specs.Int.Count.{count_trailing_zeros}
use Rattle.std.proofs.lemmas.Nat.{pow-add, shl-shr, and_mask}
use Rattle.std.proofs.Math.Nat.{pow-suc}
use Rattle.kernel_clone.specs.Footprints.{Layout, IsLayout, lines_in_frame}
use Rattle.kernel_clone.proofs.LineLaws.{line_cases}

-- ---- a line's size

-- what holds of each size that a line may have
pub each_line : (P : ℕ → Type 0) → P 16 → P 32 → P 64 → P 128 → (l : Layout) → IsLayout l → P l.line
each_line P a b c d l is = elim (line_cases l is) [
  | inl e ↦ subst P (sym e) a
  | inr (inl e) ↦ subst P (sym e) b
  | inr (inr (inl e)) ↦ subst P (sym e) c
  | inr (inr (inr e)) ↦ subst P (sym e) d
]

pub line_power : (l : Layout) → IsLayout l → l.line ≡ 2 ^ trailing_zeros w32 l.line
unfolding count_trailing_zeros
line_power = each_line (λ n. n ≡ 2 ^ trailing_zeros w32 n) refl refl refl refl

pub some_bits : (l : Layout) → IsLayout l → 4 ≤ trailing_zeros w32 l.line
unfolding count_trailing_zeros
some_bits = each_line (λ n. 4 ≤ trailing_zeros w32 n) (lit≤ tt) (lit≤ tt) (lit≤ tt) (lit≤ tt)

pub few_bits : (l : Layout) → IsLayout l → trailing_zeros w32 l.line ≤ 7
unfolding count_trailing_zeros
few_bits = each_line (λ n. trailing_zeros w32 n ≤ 7) (lit≤ tt) (lit≤ tt) (lit≤ tt) (lit≤ tt)

-- ---- a frame's lines

-- of 12 bits of an address in a frame, the line takes the lowest
pub frame_power : (l : Layout) (k : ℕ) → l.line ≡ 2 ^ k → k ≤ 7 → lines_in_frame l ≡ 2 ^ (12 - k)
frame_power l k power few =
    let bits : 12 ≡ 12 - k + k = omega (arith, few) in
    let whole : 4096 ≡ 2 ^ (12 - k) * 2 ^ k = ap (λ (n : ℕ). 2 ^ n) bits ∙ pow-add 2 (12 - k) k in
    ap (λ (n : ℕ). 4096 / n) power ∙ (ap (λ (n : ℕ). n / 2 ^ k) whole ∙ shl-shr (2 ^ (12 - k)) k)

frame_is : (l : Layout) → IsLayout l → IsPowerOfTwo (lines_in_frame l)
frame_is l is = (12 - trailing_zeros w32 l.line, frame_power l (trailing_zeros w32 l.line) (line_power l is) (few_bits l is))

-- ---- the low bits are the remainder

low_bits : (n m : ℕ) → IsPowerOfTwo m → bit_and n (m - 1) ≡ n % m
low_bits n m power = subst (λ (p : ℕ). bit_and n (p - 1) ≡ n % p) (sym power.1) (and_mask n power.0)

-- in a frame
pub frame_mask : (l : Layout) (n : ℕ) → IsLayout l → bit_and n (lines_in_frame l - 1) ≡ n % lines_in_frame l
frame_mask l n is = low_bits n (lines_in_frame l) (frame_is l is)

-- in the text's two frames
pub text_mask : (l : Layout) (n : ℕ) → IsLayout l
    → bit_and n (2 * lines_in_frame l - 1) ≡ n % (2 * lines_in_frame l)
text_mask l n is =
    let one : IsPowerOfTwo (lines_in_frame l) = frame_is l is in
    let double : 2 ^ suc one.0 ≡ 2 ^ one.0 * 2 = pow-suc 2 one.0 in
    low_bits n (2 * lines_in_frame l) (suc one.0, omega (arith, one.1, double))
