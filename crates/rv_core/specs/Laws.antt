-- What products and divisions are, in integers.
use Rattle.std.specs.Prelude.{◌≡◌, ◌⊎◌, ℕ, ◌+◌, ◌*◌, ◌^◌, ◌<◌, ℤ, pos, ◌+ℤ◌, ◌*ℤ◌, ◌<ℤ◌, unsigned_abs}

-- a word above another, as one number of 64 bits
abbrev pub together : ℕ → ℕ → ℕ
together high low = high * 2 ^ 32 + low

-- n is 0, or on the other number's side of 0
abbrev pub HasSignOf : ℤ → ℤ → Type 0
HasSignOf other n = (n ≡ pos 0) ⊎ (((pos 0 <ℤ n) × (pos 0 <ℤ other)) ⊎ ((n <ℤ pos 0) × (other <ℤ pos 0)))

-- a division of integers, toward zero
pub record IsDivision (dividend divisor quotient remainder : ℤ) : Type 0 where
  pub whole : quotient *ℤ divisor +ℤ remainder ≡ dividend
  pub small : unsigned_abs remainder < unsigned_abs divisor
  pub sign : HasSignOf dividend remainder

-- -2^31 by -1, whose quotient no word has
abbrev pub Overflows : ℕ → ℕ → Type 0
Overflows a b = (a ≡ 0x80000000) × (b ≡ 0xFFFFFFFF)
