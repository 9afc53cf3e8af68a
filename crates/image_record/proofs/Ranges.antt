-- Numbers that aren't outside a range are natural numbers of it.
use Rattle.std.proofs.Common.{◌≡◌, ℕ, ◌≤◌, false, arith}
use Rattle.std.specs.Prelude.{ℤ, pos, negsuc}
use Rattle.std.proofs.lemmas.Bool.Decides.{nat_tests}
use Rattle.image_record.specs.Numbers.{natural_of, IsNatural}
use Rattle.image_record.specs.Cases.{outside}

pub record Within (low high n : ℕ) : Type 0 where
  pub least : low ≤ n
  pub most : n ≤ high

pub inside : (low high : ℕ) (x : ℤ) → outside (pos low) (pos high) x ≡ false → Within low high (natural_of x)
inside low high (pos n) h = record { least = grind (arith, nat_tests, h); most = grind (arith, nat_tests, h) }
inside low high (negsuc n) h = cc

pub most_inside : (low high : ℕ) (x : ℤ) → outside (pos low) (pos high) x ≡ false → natural_of x ≤ high
most_inside low high x h = (inside low high x h).most

pub natural_inside : (low high : ℕ) (x : ℤ) → outside (pos low) (pos high) x ≡ false → IsNatural x
natural_inside low high (pos n) h = tt
natural_inside low high (negsuc n) h = cc
