-- Instructions, by how many of them retired.
use Rattle.std.proofs.Common.{◌≡◌, ℕ, suc, ◌+◌, ◌-◌, ◌≤◌, Bool, true, false, refl, arith}
use Rattle.kernel_call.specs.declared.domain.Domain.{Domain}
use Rattle.domain_step.specs.Stands.{retired_by}

-- each retired, but for a last one with which the domain doesn't go on
abbrev pub so_many : Domain → Domain → Bool → ℕ
so_many old new true = new.retired - old.retired
so_many old new false = suc (new.retired - old.retired)

pub few_retire : (b : Bool) → retired_by b ≤ 1
few_retire true = omega arith
few_retire false = omega arith

pub none_yet : (d : Domain) (b : Bool) → b ≡ true → so_many d d b ≡ 0
none_yet d true e = omega arith
none_yet d false e = cc e

-- after one more of a domain that went on
pub one_more : (first old new : Domain) (a b : Bool) → a ≡ true → first.retired ≤ old.retired
    → new.retired ≡ old.retired + retired_by b → so_many first new b ≡ so_many first old a + 1
one_more first old new true true e more now = omega (arith, more, now)
one_more first old new true false e more now = omega (arith, more, now)
one_more first old new false b e more now = cc e

-- at their end
pub all_retired : (first new : Domain) (b : Bool) → b ≡ true → so_many first new b ≡ new.retired - first.retired
all_retired first new true e = refl
all_retired first new false e = cc e

pub but_one : (first new : Domain) (b : Bool) → b ≡ false → so_many first new b ≡ new.retired - first.retired + 1
but_one first new true e = cc e
but_one first new false e = omega arith
