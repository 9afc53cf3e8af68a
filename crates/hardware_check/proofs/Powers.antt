-- Which numbers are powers of two.
use Rattle.std.proofs.Common.{◌≡◌, ℕ, zero, suc, ◌+◌, ◌*◌, ◌/◌, ◌%◌, ◌^◌, ◌≤◌, true, false, eqb, sym, ◌∙◌, ap, arith, inl, inr}
use Rattle.std.specs.Prelude.{count_ones}
use Rattle.std.specs.Int.{IsPowerOfTwo, is_power_of_two}
use Rattle.std.proofs.lemmas.Bool.{cases_eq, false≢true}
use Rattle.std.proofs.lemmas.Bool.Decides.{nat_tests}
use Rattle.std.proofs.lemmas.Nat.{zero_from_ones, ones_le_self, ones_cat}
use Rattle.std.proofs.Math.Nat.{pow-suc}

-- the bits of a number are its lowest and those of its half
ones_split : (n : ℕ) → count_ones n ≡ count_ones (n / 2) + count_ones (n % 2)
ones_split n =
    let whole : n / 2 * 2 ^ 1 + n % 2 ≡ n = omega arith in
    ap count_ones (sym whole) ∙ ones_cat 1 (n / 2) (n % 2) (omega arith)

count_one : count_ones 1 ≡ 1
count_one =
    elim (cases_eq (count_ones 1) 0) [
      | inl none ↦ absurd (let zero_is : 1 ≡ 0 = zero_from_ones 1 none in omega arith)
      | inr some ↦ let few = ones_le_self 1 in omega (arith, few, some)
    ]

one_bit : (fuel n : ℕ) → n ≤ fuel → count_ones n ≡ 1 → IsPowerOfTwo n
one_bit zero n le one = absurd (let few = ones_le_self n in omega (arith, few, one))
one_bit (suc fuel) n le one =
    let split = ones_split n in
    elim (cases_eq (n % 2) 0) [
      | inl even ↦
          let none = ones_le_self (n % 2) in
          let half : IsPowerOfTwo (n / 2) =
          one_bit fuel (n / 2) (let few = ones_le_self n in omega (arith, few, one))
          (omega (arith, split, none, even)) in (
            suc half.0,
            (let double : 2 ^ suc half.0 ≡ 2 ^ half.0 * 2 = pow-suc 2 half.0 in omega
                (arith, half.1, double, even)),
          )
      | inr odd ↦
          let last : n % 2 ≡ 1 = omega (arith, odd) in
          let low : count_ones (n % 2) ≡ 1 = ap count_ones last ∙ count_one in
          let high : n / 2 ≡ 0 = zero_from_ones (n / 2) (omega (arith, split, low)) in
          (0, omega (arith, high, last))
    ]

-- a number with one bit set, for which a program tests, is a power of two
pub power_is : (n : ℕ) → is_power_of_two n ≡ true → IsPowerOfTwo n
power_is n power =
    elim (cases_eq (count_ones n) 1) [
      | inl one ↦ one_bit n n (omega arith) one
      | inr other ↦ let t : eqb (count_ones n) 1
          ≡ false = grind (arith, nat_tests) in absurd (false≢true (sym t ∙ power))
    ]
