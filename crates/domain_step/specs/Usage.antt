-- What the code keeps of the switches, by entry.
use Rattle.std.specs.Prelude.{◌≡◌, ℕ, ◌≤◌, List, slice_get, Some}
use Rattle.world_view.specs.Used.{largest_of, count_of}
use Rattle.world_view.specs.declared.used.Used.{Used}

pub record IsUsed (used : List Used) (us : List (ℕ × ℕ)) : Type 0 where
  pub largest : (e : ℕ) (u : Used) → slice_get used e ≡ Some u → u.largest ≡ largest_of e us
  pub count : (e : ℕ) (u : Used) → slice_get used e ≡ Some u → u.count ≡ count_of e us

-- no entry has more switches
pub record CountedUpTo (n : ℕ) (used : List Used) : Type 0 where
  pub few : (e : ℕ) (u : Used) → slice_get used e ≡ Some u → u.count ≤ n
