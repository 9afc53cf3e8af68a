-- Counts that are within one clock are within a later one.
use Rattle.std.proofs.Common.{ℕ, ◌≤◌, arith}
use Rattle.kernel_call.specs.declared.domain.Domain.{Domain}
use Rattle.kernel_call.specs.Models.{CountsUpTo}

pub counts_later : (clock later : ℕ) (d : Domain) → clock ≤ later → CountsUpTo clock d → CountsUpTo later d
counts_later clock later d h few = record {
  retired = omega (arith, few.retired);
  readings = omega (arith, few.readings);
  replies = omega (arith, few.replies);
}
