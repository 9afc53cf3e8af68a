-- What a replacement policy does to the ways of a set, on lists of ways, newest first.
use Rattle.std.specs.Prelude.{ℕ, List}

-- for one number of ways: the list after a hit and after a fill, and the way that is given up
pub record Rule : Type 0 where
  pub touched : List ℕ → ℕ → List ℕ
  pub filled : List ℕ → ℕ → List ℕ
  pub victim : List ℕ → ℕ
