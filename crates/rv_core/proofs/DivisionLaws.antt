-- Quotients and remainders, in integers.
use Rattle.std.proofs.Common.{◌≡◌, ◌≢◌, ℕ, zero, suc, ◌+◌, ◌-◌, ◌*◌, ◌/◌, ◌%◌, ◌^◌, ◌<◌, ◌≤◌}
use Rattle.std.proofs.Common.{ℤ, pos, negsuc, neg_ℤ, unsigned_abs, int_div, int_rem, FitsSigned}
use Rattle.std.proofs.Common.{refl, sym, ap, ◌∙◌, inl, inr, lit<, arith}
use Rattle.std.specs.Int.{w32, cast_unsigned}
use Rattle.std.proofs.Math.Nat.{div-le_self, mod-le}
use Rattle.std.proofs.lemmas.Bool.{ne_eqb, cases_eq}
use Rattle.std.proofs.lemmas.Int.{ints, of_z-to_z, to_z-of_z, quot-rem, rem_below}
use Rattle.std.proofs.lemmas.Nat.{div_below, mod_below, div-add-mod'}
use lib.Signed.{mag_rem}
use Rattle.rv_decode.specs.declared.Division.TheVariants.{Quotient, QuotientUnsigned}
use Rattle.rv_decode.specs.declared.Division.TheVariants.{Remainder, RemainderUnsigned}
use Rattle.rv_core.specs.Products.{signed, division_of}
use Rattle.rv_core.specs.Laws.{HasSignOf, IsDivision, Overflows}
use Rattle.rv_core.proofs.Words.{signed-fits}

-- the word of a number
signed-word : (n : ℕ) (z : ℤ) → n < 2 ^ 32 → signed n ≡ z → n ≡ cast_unsigned w32 z
signed-word n z fits e = sym (of_z-to_z w32 n fits) ∙ ap (cast_unsigned w32) e

not-zero : (y : ℤ) → y ≢ pos 0 → 0 < unsigned_abs y
not-zero (pos zero) n = absurd (n refl)
not-zero (pos (suc b)) n = omega arith
not-zero (negsuc b) n = omega arith

-- a quotient is no further from 0 than its dividend
neg-fits : (n : ℕ) → n ≤ 2 ^ 31 → FitsSigned w32 (neg_ℤ (pos n))
neg-fits zero h = record { sfits = lit< tt }
neg-fits (suc n) h = record { sfits = omega arith }

-- -2^31 by -1: only there the quotient has no word
abbrev IsLeastByMinusOne : ℤ → ℤ → Type 0
IsLeastByMinusOne x y = (x ≡ negsuc (2 ^ 31 - 1)) × (y ≡ negsuc 0)

quotient-fits : (x y : ℤ) → FitsSigned w32 x → FitsSigned w32 y → y ≢ pos 0 → ¬ IsLeastByMinusOne x y
    → FitsSigned w32 (int_div x y)
quotient-fits (pos a) (pos b) f g n o = record { sfits = omega (arith, div-le_self a b, f.sfits) }
quotient-fits (pos a) (negsuc b) f g n o =
    neg-fits (a / suc b) (omega (arith, div-le_self a (suc b), f.sfits))
quotient-fits (negsuc a) (pos b) f g n o =
    neg-fits (suc a / b) (omega (arith, div-le_self (suc a) b, f.sfits))
quotient-fits (negsuc a) (negsuc b) f g n o =
    let below = f.sfits in
    let last : ¬ ((a ≡ 2 ^ 31 - 1) × (b ≡ 0)) = λ h. o (ap negsuc h.0, ap negsuc h.1) in
    let wide : suc a < 2 ^ 31 * suc b = elim (cases_eq b 0) [
      | inl e ↦ let low : a ≢ 2 ^ 31 - 1 = λ h. last (h, e) in omega arith
      | inr e ↦ omega arith
    ] in
    record { sfits = div_below (suc a) (suc b) (2 ^ 31) (omega arith) wide }

remainder-fits : (x y : ℤ) → FitsSigned w32 x → FitsSigned w32 (int_rem x y)
remainder-fits x y f = record { sfits = omega (arith, mag_rem x y, f.sfits) }

neg-sign : (n a : ℕ) → HasSignOf (negsuc a) (neg_ℤ (pos n))
neg-sign zero a = inl refl
neg-sign (suc n) a = inr (inr (omega (arith, ints), omega (arith, ints)))

pos-sign : (n a : ℕ) → n ≤ a → HasSignOf (pos a) (pos n)
pos-sign zero a h = inl refl
pos-sign (suc n) a h = inr (inl (omega (arith, ints), omega (arith, ints)))

remainder-sign : (x y : ℤ) → HasSignOf x (int_rem x y)
remainder-sign (pos a) y = pos-sign (a % unsigned_abs y) a (mod-le a (unsigned_abs y))
remainder-sign (negsuc a) y = neg-sign (suc a % unsigned_abs y) a

-- a division of two numbers that have words
divides : (x y : ℤ) → FitsSigned w32 x → FitsSigned w32 y → y ≢ pos 0 → ¬ IsLeastByMinusOne x y
    → IsDivision x y (signed (cast_unsigned w32 (int_div x y))) (signed (cast_unsigned w32 (int_rem x y)))
divides x y f g n o =
    let q = to_z-of_z w32 (int_div x y) (quotient-fits x y f g n o) in
    let r = to_z-of_z w32 (int_rem x y) (remainder-fits x y f) in
    let far : 0 < unsigned_abs y = not-zero y n in
    rw (q, r) (record { whole = quot-rem x y; small = rem_below x y far; sign = remainder-sign x y })

pub signed-division : (a b : ℕ) → a < 2 ^ 32 → b < 2 ^ 32 → b ≢ 0 → ¬ Overflows a b
    → IsDivision (signed a) (signed b) (signed (division_of Quotient a b)) (signed (division_of Remainder a b))
signed-division a b f g n o =
    let some : signed b ≢ pos 0 = λ e. n (signed-word b (pos 0) g e) in
    let other : ¬ IsLeastByMinusOne (signed a) (signed b) =
    λ h. o (signed-word a (negsuc (2 ^ 31 - 1)) f h.0, signed-word b (negsuc 0) g h.1) in
    rw (ne_eqb b 0 n) (divides (signed a) (signed b) (signed-fits a f) (signed-fits b g) some other)

pub unsigned-whole : (a b : ℕ) → b ≢ 0
    → division_of QuotientUnsigned a b * b + division_of RemainderUnsigned a b ≡ a
unsigned-whole a b n = rw (ne_eqb b 0 n) (div-add-mod' a b)

pub unsigned-small : (a b : ℕ) → b ≢ 0 → division_of RemainderUnsigned a b < b
unsigned-small a b n = rw (ne_eqb b 0 n) (mod_below a b (omega arith))

pub overflow-quotient : (a b : ℕ) → Overflows a b → division_of Quotient a b ≡ a
overflow-quotient a b h = rw (h.0, h.1)

pub overflow-remainder : (a b : ℕ) → Overflows a b → division_of Remainder a b ≡ 0
overflow-remainder a b h = rw (h.0, h.1)
