-- What a count of faults tells of a call.
use Rattle.std.specs.Prelude.{◌≡◌, ℕ, ◌+◌, ◌-◌, ◌^◌, ◌≤◌, min}

-- one more, in a count that stays at u64's greatest number
abbrev pub one_more : ℕ → ℕ
one_more n = min (n + 1) (2 ^ 64 - 1)

-- the count is greater than it was, or stood at u64's greatest number
abbrev pub Rose : ℕ → ℕ → Type 0
Rose before now = one_more before ≤ now

-- the count tells whether a call failed: it rose where the call did, stays where it didn't, and never falls
pub record TellsFault (failed : Type 0) (before now : ℕ) : Type 0 where
  pub rose : failed → Rose before now
  pub steady : ¬ failed → now ≡ before
  pub never_falls : before ≤ now
