-- Powers of two, as numbers of sets.
use Rattle.std.proofs.Common.{◌≡◌, ℕ, ◌-◌, ◌%◌, ◌<◌, subst, sym}
use Rattle.std.specs.Prelude.{bit_and}
use Rattle.std.specs.Int.{IsPowerOfTwo}
use Rattle.std.proofs.lemmas.Nat.{pow_pos, and_mask}

pub positive : (n : ℕ) → IsPowerOfTwo n → 0 < n
positive n power = subst (λ (m : ℕ). 0 < m) (sym power.1) (pow_pos power.0)

-- the low bits are the remainder
pub low_bits : (n sets : ℕ) → IsPowerOfTwo sets → bit_and n (sets - 1) ≡ n % sets
low_bits n sets power = subst (λ (m : ℕ). bit_and n (m - 1) ≡ n % m) (sym power.1) (and_mask n power.0)
