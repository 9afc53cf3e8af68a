-- What the switches of a schedule entry took.
use Rattle.std.specs.Prelude.{ℕ, max, ◌==◌, if◌then◌else◌, List, [], ◌∷◌, count_by}

-- how many switches belong to an entry
unfoldable pub count_of : ℕ → List (ℕ × ℕ) → ℕ
count_of e used = count_by (λ u. u.0 == e) used

-- the most cycles that one of them took; 0 where there is none
unfoldable pub largest_of : ℕ → List (ℕ × ℕ) → ℕ
largest_of e [] = 0
largest_of e (u ∷ us) = if u.0 == e then max u.1 (largest_of e us) else largest_of e us
