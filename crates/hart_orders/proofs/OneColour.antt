-- A second level of one colour, which there is without colours.
use Rattle.std.proofs.Common.{◌≡◌, ◌∙◌, ℕ, zero, suc, ◌+◌, ◌*◌, ◌/◌, ◌^◌, ◌≤◌, ap, sym, subst, arith}
use Rattle.std.specs.Int.{IsPowerOfTwo}
use Rattle.std.proofs.Math.Nat.{pow-suc, mul-add}
use Rattle.hardware_check.proofs.Powers.{power_is}
use Rattle.std.proofs.Math.Nat.{div-le_self}
use Rattle.std.proofs.lemmas.Nat.{mul-le}
use Rattle.l2_colour.specs.Colours.{IsColoured, lines_of}
use Rattle.repl_policy.specs.declared.AnyPolicy.{AnyPolicy}
use Rattle.repl_policy.specs.Members.{any_takes}
use Rattle.mem_system.specs.declared.geometry.Geometry.{Geometry}
use Rattle.mem_system.specs.Geometry.{IsGeometry}
use Rattle.hardware_check.specs.Hardware.{Hardware, IsHardware}

twice : (q m : ℕ) → q * (m + m) ≡ q * m + q * m
twice q m = mul-add q m m

-- what divides a power of two by one is one
pub quotient : (k j q : ℕ) → q * 2 ^ k ≡ 2 ^ j → IsPowerOfTwo q
quotient zero j q e = (j, (let one : q * 1 ≡ q = omega arith in sym one ∙ e))
quotient (suc k) zero q e =
    let double : 2 ^ suc k ≡ 2 ^ k * 2 = pow-suc 2 k in
    let sum : q * (2 ^ k + 2 ^ k) ≡ q * 2 ^ k + q * 2 ^ k = twice q (2 ^ k) in
    let same : 2 ^ suc k ≡ 2 ^ k + 2 ^ k = omega (arith, double) in
    let all : q * (2 ^ k + 2 ^ k) ≡ 1 = ap (λ (n : ℕ). q * n) (sym same) ∙ e in
    absurd (omega (arith, sum, all))
quotient (suc k) (suc j) q e =
    let double : 2 ^ suc k ≡ 2 ^ k * 2 = pow-suc 2 k in
    let other : 2 ^ suc j ≡ 2 ^ j * 2 = pow-suc 2 j in
    let sum : q * (2 ^ k + 2 ^ k) ≡ q * 2 ^ k + q * 2 ^ k = twice q (2 ^ k) in
    let same : 2 ^ suc k ≡ 2 ^ k + 2 ^ k = omega (arith, double) in
    let all : q * (2 ^ k + 2 ^ k) ≡ 2 ^ suc j = ap (λ (n : ℕ). q * n) (sym same) ∙ e in
    quotient k j q (omega (arith, sum, all, other))

one_colour : (n : ℕ) → lines_of n * n ≡ 4096 → IsColoured n (4096 / n)
one_colour n whole =
    let one : 4096 / n * n / 4096 ≡ 1 = ap (λ (m : ℕ). m / 4096) whole in
    record {
      whole_lines = whole;
      whole_colours = omega (arith, one, whole);
      some = omega (arith, one);
      few = omega (arith, one);
    }

pub geometry_one : (p : Hardware) → IsHardware p → (g : Geometry AnyPolicy) → g.line_size ≡ p.line
    → g.l2.ways ≤ 16 → IsGeometry any_takes g
    → IsGeometry any_takes (record g { l2 = record g.l2 { sets = 4096 / p.line } })
geometry_one p h g same few is =
    let power = power_is p.line h.line.power in
    let whole : lines_of p.line * p.line ≡ 4096 = subst (λ (n : ℕ). lines_of n * n ≡ 4096) same
    is.coloured.whole_lines in
    let least = div-le_self 4096 p.line in
    let product = mul-le (4096 / p.line) g.l2.ways 4096 16 least few in
    record {
      least = is.least;
      coloured = subst (λ (n : ℕ). IsColoured n (4096 / p.line)) (sym same) (one_colour p.line whole);
      predictor = is.predictor;
      l1i = is.l1i;
      l1d = is.l1d;
      l2 = record {
        taken = is.l2.taken;
        power =
            quotient power.0 12 (4096 / p.line) (ap (λ (n : ℕ). 4096 / p.line * n) (sym power.1) ∙ whole);
        small = omega (arith, product);
      };
      tlb = is.tlb;
      dirty = is.dirty;
    }
