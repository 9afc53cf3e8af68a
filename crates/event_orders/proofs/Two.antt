-- The example is a small machine: so what is asked of one can be met.
use Rattle.std.proofs.Common.{◌<◌, ◌≤◌, Bool, true, false, eqb, arith}
use Rattle.std.specs.Prelude.{if◌then◌else◌}
use Rattle.event_orders.specs.Small.{IsSmall}
use Rattle.event_orders.specs.Example.{two}

some : (b : Bool) → 0 < (if b then 2 else 3)
some true = omega arith
some false = omega arith

few : (b : Bool) → (if b then 2 else 3) ≤ 3
few true = omega arith
few false = omega arith

pub is_two : IsSmall two
is_two = record {
  some = λ h k x. some (eqb h 0);
  few = λ h k x. few (eqb h 0);
  long = λ h k. omega arith;
  padded = λ h k. omega arith;
}
