use Rattle.std.proofs.Common.{◌≡◌, ◌+◌, ◌-◌, ◌%◌, ℕ, subst, arith}
use Rattle.std.specs.Prelude.{bit_and}
use Rattle.set_cache.proofs.Powers.{low_bits}
use Rattle.branch_pred.proofs.low_bits.Goals as goal

pub returns : goal.returns
returns c =
    let n = c.args.number in
    let largest = c.args.largest in
    let same : (largest + 1) - 1 ≡ largest = omega arith in
    record {
      value = subst (λ (m : ℕ). bit_and n m ≡ n % (largest + 1)) same (low_bits n (largest + 1) c.requires.power);
    }
