-- The two words of a product are the product.
use Rattle.std.proofs.Common.{◌≡◌, ℕ, zero, suc, ◌+◌, ◌-◌, ◌*◌, ◌/◌, ◌%◌, ◌^◌, ◌<◌}
use Rattle.std.proofs.Common.{ℤ, pos, negsuc, ◌+ℤ◌, ◌*ℤ◌, neg_ℤ, unsigned_abs, FitsSigned}
use Rattle.std.proofs.Common.{ap, sym, subst, ◌∙◌, inl, inr, lit<, arith}
use Rattle.std.specs.Int.{w64, cast_signed, cast_unsigned}
use Rattle.std.proofs.lemmas.Int.{ints, to_z_pos, to_z-of_z, fits_signed_mul}
use Rattle.std.proofs.lemmas.Nat.{shr_split}
use Rattle.rv_decode.specs.declared.Product.TheVariants.{Low, High, HighSignedUnsigned, HighUnsigned}
use Rattle.rv_core.specs.Products.{signed, upper_word, product_of}
use Rattle.rv_core.specs.Laws.{together}
use Rattle.rv_core.proofs.Words.{cases_signed, signed-abs, signed-fits}

-- z and p have the same lower word: they differ by a multiple of 2^32
record SameLow (z : ℤ) (p : ℕ) : Type 0 where
  less : ℕ
  more : ℕ
  same : z +ℤ pos (more * 2 ^ 32) ≡ pos (p + less * 2 ^ 32)

words-together : (z : ℤ) (p : ℕ) → FitsSigned w64 z → SameLow z p
    → cast_signed w64 (together (upper_word z) (p % 2 ^ 32)) ≡ z
words-together (pos m) p fits h =
    let e : m + h.more * 2 ^ 32 ≡ p + h.less * 2 ^ 32 = ap unsigned_abs h.same in
    let t : m / 2 ^ 32 * 2 ^ 32 + p % 2 ^ 32 ≡ m = omega arith in
    rw t (to_z_pos w64 m fits.sfits)
words-together (negsuc m) p fits h =
    let below = fits.sfits in
    let e = h.same in
    let s : h.more * 2 ^ 32 ≡ p + h.less * 2 ^ 32 + suc m = omega (arith, ints) in
    let t : (2 ^ 32 - suc (m / 2 ^ 32)) * 2 ^ 32 + p % 2 ^ 32 ≡ 2 ^ 64 - suc m = omega arith in
    rw t (to_z-of_z w64 (negsuc m) fits)

-- of numbers that are u and v below 2^32
below-left : (a u b : ℕ) → a + u ≡ 2 ^ 32 → a * b + u * b ≡ b * 2 ^ 32
below-left a u b e = let t = ap (λ n. n * b) e in omega arith

below-right : (a b v : ℕ) → b + v ≡ 2 ^ 32 → a * b + a * v ≡ a * 2 ^ 32
below-right a b v e = let t = ap (λ n. a * n) e in omega arith

below-both : (a u b v : ℕ) → a + u ≡ 2 ^ 32 → b + v ≡ 2 ^ 32
    → u * v + 2 ^ 32 * 2 ^ 32 ≡ a * b + (u + v) * 2 ^ 32
below-both a u b v e f = let s = below-left a u b e in let t = below-right u b v f in omega arith

same-negative : (t k p : ℕ) → p + t ≡ k * 2 ^ 32 → SameLow (neg_ℤ (pos t)) p
same-negative zero k p e = record { less = 0; more = k; same = omega (arith, ints) }
same-negative (suc t) k p e = record { less = 0; more = k; same = omega (arith, ints) }

same-above : (a : ℕ) → SameLow (pos a) a
same-above a = record { less = 0; more = 0; same = omega (arith, ints) }

same-mixed : (a b : ℕ) → a < 2 ^ 32 → SameLow (signed a *ℤ pos b) (a * b)
same-mixed a b f =
    let u = suc (2 ^ 32 - suc a) in
    elim (cases_signed a f) [
      | inl h ↦ rw h.is (same-above (a * b))
      | inr h ↦ rw h.is (same-negative (u * b) b (a * b) (below-left a u b h.sum))
    ]

same-high : (a b : ℕ) → a < 2 ^ 32 → b < 2 ^ 32 → SameLow (signed a *ℤ signed b) (a * b)
same-high a b f g =
    let u = suc (2 ^ 32 - suc a) in
    let v = suc (2 ^ 32 - suc b) in
    elim (cases_signed b g) [
      | inl i ↦ rw i.is (same-mixed a b f)
      | inr i ↦ elim (cases_signed a f) [
        | inl h ↦ rw (h.is, i.is) (same-negative (a * v) a (a * b) (below-right a b v i.sum))
        | inr h ↦ rw (h.is, i.is) (record {
          less = u + v;
          more = 2 ^ 32;
          same = ap pos (below-both a u b v h.sum i.sum);
        })
      ]
    ]

fits-mixed : (a b : ℕ) → a < 2 ^ 32 → b < 2 ^ 32 → FitsSigned w64 (signed a *ℤ pos b)
fits-mixed a b f g =
    fits_signed_mul w64 (signed a) (pos b) (2 ^ 31) (2 ^ 32 - 1) (signed-abs a f) (omega arith) (lit< tt)

fits-high : (a b : ℕ) → a < 2 ^ 32 → b < 2 ^ 32 → FitsSigned w64 (signed a *ℤ signed b)
fits-high a b f g =
    fits_signed_mul w64 (signed a) (signed b) (2 ^ 31) (2 ^ 31) (signed-abs a f) (signed-abs b g) (lit< tt)

pub product-mixed : (a b : ℕ) → a < 2 ^ 32 → b < 2 ^ 32
    → cast_signed w64 (together (product_of HighSignedUnsigned a b) (product_of Low a b)) ≡ signed a *ℤ pos b
product-mixed a b f g = words-together (signed a *ℤ pos b) (a * b) (fits-mixed a b f g) (same-mixed a b f)

pub product-high : (a b : ℕ) → a < 2 ^ 32 → b < 2 ^ 32
    → cast_signed w64 (together (product_of High a b) (product_of Low a b)) ≡ signed a *ℤ signed b
product-high a b f g = words-together (signed a *ℤ signed b) (a * b) (fits-high a b f g) (same-high a b f g)

pub product-unsigned : (a b : ℕ) → together (product_of HighUnsigned a b) (product_of Low a b) ≡ a * b
product-unsigned a b = shr_split (a * b) 32

wide : (n : ℕ) → n < 2 ^ 32 → FitsSigned w64 (signed n)
wide n fits = let f = (signed-fits n fits).sfits in record { sfits = omega arith }

-- a number of 64 bits that goes to bits and back, as the machine hands it on
abbrev pub handed : ℤ → ℤ
handed z = cast_signed w64 (cast_unsigned w64 z)

pub upper-signed : (a b : ℕ) → a < 2 ^ 32 → b < 2 ^ 32
    → upper_word (handed (handed (signed a) *ℤ handed (signed b))) ≡ product_of High a b
upper-signed a b f g =
    let x = to_z-of_z w64 (signed a) (wide a f) in
    let y = to_z-of_z w64 (signed b) (wide b g) in
    let product = to_z-of_z w64 (signed a *ℤ signed b) (fits-high a b f g) in
    (λ i. upper_word (handed (x i *ℤ y i))) ∙ ap upper_word product

pub upper-mixed : (a b : ℕ) → a < 2 ^ 32 → b < 2 ^ 32
    → upper_word (handed (handed (signed a) *ℤ handed (pos b))) ≡ product_of HighSignedUnsigned a b
upper-mixed a b f g =
    let second : FitsSigned w64 (pos b) = record { sfits = omega arith } in
    let x = to_z-of_z w64 (signed a) (wide a f) in
    let y = to_z-of_z w64 (pos b) second in
    let product = to_z-of_z w64 (signed a *ℤ pos b) (fits-mixed a b f g) in
    (λ i. upper_word (handed (x i *ℤ y i))) ∙ ap upper_word product

-- no product overflows
fits-handed : (x y z w : ℤ) → x ≡ z → y ≡ w → FitsSigned w64 z → FitsSigned w64 w → FitsSigned w64 (z *ℤ w)
    → FitsSigned w64 (handed x *ℤ handed y)
fits-handed x y z w p q f g fits =
    let a = ap handed p ∙ to_z-of_z w64 z f in
    let b = ap handed q ∙ to_z-of_z w64 w g in
    subst (FitsSigned w64) (sym (λ i. a i *ℤ b i)) fits

pub fits-signed : (a b : ℕ) (x y : ℤ) → a < 2 ^ 32 → b < 2 ^ 32 → x ≡ signed a → y ≡ signed b
    → FitsSigned w64 (handed x *ℤ handed y)
fits-signed a b x y f g p q = fits-handed x y (signed a) (signed b) p q (wide a f) (wide b g) (fits-high a b f g)

pub fits-half_signed : (a b : ℕ) (x y : ℤ) → a < 2 ^ 32 → b < 2 ^ 32 → x ≡ signed a → y ≡ pos b
    → FitsSigned w64 (handed x *ℤ handed y)
fits-half_signed a b x y f g p q = fits-handed x y (signed a) (pos b) p q (wide a f) (record { sfits = omega arith }) (fits-mixed a b f g)
