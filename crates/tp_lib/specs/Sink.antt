-- A sink that grows, as its callers see it.
use Rattle.std.specs.Prelude.{ℕ, List}

pub record TextSinkState : Type 0 where
  pub text : List ℕ  -- what was written
  pub faults : ℕ  -- how often memory ran out
