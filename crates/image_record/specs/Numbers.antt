-- Numbers of an image, which may be of any size: as natural numbers, and in a list.
use Rattle.std.specs.Prelude.{ℕ, ⊤, ◌||◌, not, ℤ, pos, negsuc, int_lt, Bool, List}
use Rattle.std.specs.List.{list_any}

-- the natural number, or 0 for a negative one
abbrev pub natural_of : ℤ → ℕ
natural_of (pos n) = n
natural_of (negsuc n) = 0

-- a number that isn't negative
abbrev pub IsNatural : ℤ → Type 0
IsNatural (pos n) = ⊤
IsNatural (negsuc n) = ⊥

abbrev pub is_same : ℤ → ℤ → Bool
is_same x y = not (int_lt x y || int_lt y x)

-- whether a number stands in a list
abbrev pub names : List ℤ → ℤ → Bool
names numbers x = list_any (λ y. is_same y x) numbers
