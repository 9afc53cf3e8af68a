-- Products and divisions, and the target buffer: their ranges, and that they are those that the image says.
use Rattle.std.proofs.Common.{◌≡◌, ℕ, ◌≤◌, Bool, true, false, Option, None, Some, refl, arith}
use Rattle.std.specs.Prelude.{ℤ, pos, negsuc, if◌then◌else◌, ◌==◌, ◌||◌, option_map}
use Rattle.cycle_cost.specs.Costs.{IsCost}
use Rattle.image_record.specs.Record.{Raw, RawMuldiv}
use Rattle.image_record.specs.Cases.{refusal, outside}
use Rattle.image_record.specs.Numbers.{natural_of}
use Rattle.hardware_check.specs.Hardware.{is_size, cost_or_none, products_of, places_of, targets_of, hardware_of, mul_of, div_of, IsBuffer, IsSize}
use Rattle.hardware_check.specs.Extensions.{product_case, muldiv_case, targets_case, k22, IsMuldiv, AreTargets, HasExtensions}
use Rattle.image_record.proofs.FirstCases.{or_first, or_rest, if_first}
use Rattle.image_record.proofs.Ranges.{inside, most_inside}
use Rattle.hardware_check.proofs.Parts.{size_is, none_if}

-- ---- ranges, whatever the image says

few_by : (x : ℤ) (b : Bool) → outside (pos 1) (pos 1000) x ≡ b → (if b then 0 else natural_of x) ≤ 1000
few_by x true e = omega arith
few_by x false e = most_inside 1 1000 x e

few_cost : (x : ℤ) → cost_or_none x ≤ 1000
few_cost x = few_by x (outside (pos 1) (pos 1000) x) refl

pub few_mul : (o : Option RawMuldiv) → mul_of (option_map products_of o) ≤ 1000
unfolding products_of
few_mul None = omega arith
few_mul (Some c) = few_cost c.mul

pub few_div : (o : Option RawMuldiv) → div_of (option_map products_of o) ≤ 1000
unfolding products_of
few_div None = omega arith
few_div (Some c) = few_cost c.div

few_places_by : (x : ℤ) (b : Bool) → is_size 1 256 x ≡ b → (if b then natural_of x else 0) ≤ 256
few_places_by x true e = (size_is 1 256 x e).most
few_places_by x false e = omega arith

pub few_targets : (o : Option ℤ) → targets_of o ≤ 256
few_targets None = omega arith
few_targets (Some x) = few_places_by x (is_size 1 256 x) refl

or_true : (a b : Bool) → b ≡ true → (a || b) ≡ true
or_true true b t = refl
or_true false b t = t

buffer_by : (x : ℤ) (b : Bool) → is_size 1 256 x ≡ b → IsBuffer (if b then natural_of x else 0)
buffer_by x true e = or_true (natural_of x == 0) _ (size_is 1 256 x e).power
buffer_by x false e = refl

pub buffer_sound : (o : Option ℤ) → IsBuffer (targets_of o)
buffer_sound None = refl
buffer_sound (Some x) = buffer_by x (is_size 1 256 x) refl

-- ---- where their rule is kept

-- a number that isn't negative is its natural number
pos_is : (low high : ℕ) (x : ℤ) → outside (pos low) (pos high) x ≡ false → x ≡ pos (natural_of x)
pos_is low high (pos n) h = refl
pos_is low high (negsuc n) h = cc

record IsExact (x : ℤ) : Type 0 where
  is : x ≡ pos (cost_or_none x)
  cost : IsCost (cost_or_none x)

exact_from : (x : ℤ) → outside (pos 1) (pos 1000) x ≡ false → IsExact x
exact_from x h =
    let range = inside 1 1000 x h in
    let same : cost_or_none x ≡ natural_of x = rw h refl in
    record { is = rw same (pos_is 1 1000 x h); cost = rw same (record { some = range.least; few = range.most }) }

exact_cost : (case : ℕ) (x : ℤ) → product_case case x ≡ None → IsExact x
exact_cost case x n =
    let due = refusal 22 (pos case) x (pos 1000) in
    exact_from x (if_first (outside (pos 1) (pos 1000) x) due None n)

muldiv_said : (o : Option RawMuldiv) → muldiv_case o ≡ None → IsMuldiv o (option_map products_of o)
unfolding products_of
muldiv_said None n = tt
muldiv_said (Some c) n =
    let mul = exact_cost 1 c.mul (or_first (product_case 1 c.mul) _ n) in
    let div = exact_cost 2 c.div (or_rest (product_case 1 c.mul) _ n) in
    record { mul = mul.is; div = div.is; mul_cost = mul.cost; div_cost = div.cost }

size_said : (x : ℤ) → is_size 1 256 x ≡ true → (x ≡ pos (places_of x)) × IsSize 1 256 (places_of x)
size_said (pos n) h = rw h (refl, size_is 1 256 (pos n) h)
size_said (negsuc n) h = cc

targets_said : (o : Option ℤ) → targets_case o ≡ None → AreTargets o (targets_of o)
targets_said None n = refl
targets_said (Some x) n = size_said x (none_if (is_size 1 256 x) (refusal 22 (pos 3) x (pos 256)) n)

pub extensions_said : (i : Raw) → k22 i ≡ None → HasExtensions i (hardware_of i)
unfolding k22 hardware_of
extensions_said i n = record {
  muldiv = muldiv_said i.muldiv (or_first (muldiv_case i.muldiv) (targets_case i.targets) n);
  targets = targets_said i.targets (or_rest (muldiv_case i.muldiv) (targets_case i.targets) n);
}
