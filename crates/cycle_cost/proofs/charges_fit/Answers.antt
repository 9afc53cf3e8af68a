use Rattle.std.proofs.Common.{◌≤◌, ◌-◌, ◌*◌, ◌^◌, ℕ, length, arith}
use Rattle.std.specs.Prelude.{All, sum}
use Rattle.std.proofs.lemmas.List.Sums.{sum_by-le}
use Rattle.cycle_cost.proofs.charges_fit.Goals as goal

pub returns : goal.returns
returns c = record {
  fits = λ charges each few.
      let most : All (λ (charge : ℕ). charge ≤ 2 ^ 32 - 1) charges = λ k d lt. let one = each k d lt in omega arith in
      let whole : sum charges ≤ length charges * (2 ^ 32 - 1) = sum_by-le (λ (charge : ℕ). charge) (2 ^ 32 - 1) charges most in
      omega (arith, whole);
}
