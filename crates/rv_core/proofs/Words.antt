-- A word as a number in two's complement.
use Rattle.std.proofs.Common.{◌≡◌, ℕ, suc, ◌+◌, ◌-◌, ◌^◌, ◌<◌, ◌≤◌, ◌⊎◌}
use Rattle.std.proofs.Common.{ℤ, pos, negsuc, unsigned_abs, FitsSigned, inl, inr, ap, ◌∙◌, arith}
use Rattle.std.specs.Int.{w32, cast_signed, cast_unsigned}
use Rattle.std.proofs.lemmas.Bool.{cases_lt, le-ltb}
use Rattle.std.proofs.lemmas.Int.{ints, to_z-of_z}
use Rattle.rv_core.specs.Products.{signed}

-- a word below 2^31 is itself
pub record IsAbove (n : ℕ) : Type 0 where
  pub small : n < 2 ^ 31
  pub is : signed n ≡ pos n

-- another lies 2^32 above its number
pub record IsBelow (n u : ℕ) : Type 0 where
  pub small : u < 2 ^ 31
  pub sum : n + suc u ≡ 2 ^ 32
  pub is : signed n ≡ negsuc u

pub cases_signed : (n : ℕ) → n < 2 ^ 32 → IsAbove n ⊎ IsBelow n (2 ^ 32 - suc n)
cases_signed n fits = elim (cases_lt n (2 ^ 31)) [
  | inl lt ↦ inl (record { small = lt; is = omega (arith, ints) })
  | inr ge ↦ inr (record { small = omega arith; sum = omega arith; is = rw (le-ltb n (2 ^ 31) ge) })
]

pub signed-abs : (n : ℕ) → n < 2 ^ 32 → unsigned_abs (signed n) ≤ 2 ^ 31
signed-abs n fits = elim (cases_signed n fits) [
  | inl h ↦ rw h.is (omega (arith, h.small))
  | inr h ↦ rw h.is (omega (arith, h.small))
]

pub signed-fits : (n : ℕ) → n < 2 ^ 32 → FitsSigned w32 (signed n)
signed-fits n fits = elim (cases_signed n fits) [
  | inl h ↦ rw h.is (record { sfits = h.small })
  | inr h ↦ rw h.is (record { sfits = h.small })
]

-- a number that goes to bits and back, as the machine hands it on
pub signed-again : (n : ℕ) (x y : ℤ) → n < 2 ^ 32 → x ≡ signed n
    → y ≡ cast_signed w32 (cast_unsigned w32 x) → y ≡ signed n
signed-again n x y fits e f =
    f ∙ ap (λ z. signed (cast_unsigned w32 z)) e ∙ to_z-of_z w32 (signed n) (signed-fits n fits)
