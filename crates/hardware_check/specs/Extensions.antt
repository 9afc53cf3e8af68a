-- K22, the rule of products and of the target buffer, and what it gives.
use Rattle.std.specs.Prelude.{◌≡◌, ℕ, ℤ, pos, if◌then◌else◌, Option, Some, None}
use Rattle.cycle_cost.specs.Costs.{IsCost, ProductCosts}
use Rattle.image_record.specs.declared.refusal.Refusal.{Refusal}
use Rattle.image_record.specs.Record.{Raw, RawMuldiv}
use Rattle.image_record.specs.Cases.{or_else, refusal, outside}
use Rattle.hardware_check.specs.Hardware.{Hardware, is_size, IsSize}

-- 1: mul, 2: div
abbrev pub product_case : ℕ → ℤ → Option Refusal
product_case case x = if outside (pos 1) (pos 1000) x then Some (refusal 22 (pos case) x (pos 1000)) else None

abbrev pub muldiv_case : Option RawMuldiv → Option Refusal
muldiv_case None = None
muldiv_case (Some c) = or_else (product_case 1 c.mul) (product_case 2 c.div)

-- 3: no power of two from 1 to 256
abbrev pub places_case : ℤ → Option Refusal
places_case x = if is_size 1 256 x then None else Some (refusal 22 (pos 3) x (pos 256))

abbrev pub targets_case : Option ℤ → Option Refusal
targets_case None = None
targets_case (Some x) = places_case x

unfoldable pub k22 : Raw → Option Refusal
k22 i = or_else (muldiv_case i.muldiv) (targets_case i.targets)

-- ---- where it is kept

-- they cost what the image says, 1 to 1,000 cycles each
pub record AreSaid (said : RawMuldiv) (c : ProductCosts) : Type 0 where
  pub mul : said.mul ≡ pos c.mul
  pub div : said.div ≡ pos c.div
  pub mul_cost : IsCost c.mul
  pub div_cost : IsCost c.div

abbrev pub IsMuldiv : Option RawMuldiv → Option ProductCosts → Type 0
IsMuldiv None None = Unit {0}
IsMuldiv (Some said) (Some c) = AreSaid said c
IsMuldiv _ _ = ⊥

abbrev pub AreTargets : Option ℤ → ℕ → Type 0
AreTargets None places = places ≡ 0
AreTargets (Some said) places = (said ≡ pos places) × IsSize 1 256 places

-- the machine has the products and the target buffer that the image says
pub record HasExtensions (i : Raw) (h : Hardware) : Type 0 where
  pub muldiv : IsMuldiv i.muldiv h.muldiv
  pub targets : AreTargets i.targets h.targets
