-- What a page may be used for, as one number: the sum of 1 to read, 2 to write and 4 to execute.
use Rattle.std.specs.Prelude.{ℕ, ◌+◌, Bool, ◌||◌, nat_eq, if◌then◌else◌}

abbrev pub rights_with : Bool → Bool → Bool → ℕ
rights_with read write execute =
    (if read then 1 else 0) + (if write then 2 else 0) + (if execute then 4 else 0)

-- the rights that a page may have: some, and one that is written is read too
abbrev pub are_good : ℕ → Bool
are_good rights =
    nat_eq rights 1 || (nat_eq rights 3 || (nat_eq rights 4 || (nat_eq rights 5 || nat_eq rights 7)))
