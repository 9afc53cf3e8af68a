-- The first broken case of a list, and the refusals that name it.
use Rattle.std.specs.Prelude.{ℕ, ◌||◌, nat_lt, ℤ, pos, int_lt, Bool, if◌then◌else◌, List, [], ◌∷◌, ◌++◌, Option, Some, None}
use Rattle.image_record.specs.declared.refusal.Refusal.{Refusal}

abbrev pub or_else : {A : Type 0} → Option A → Option A → Option A
or_else (Some x) rest = Some x
or_else None rest = rest

-- each item is handed on together with those before it
abbrev pub first_case : {A R : Type 0} → (List A → A → Option R) → List A → List A → Option R
first_case f earlier [] = None
first_case f earlier (x ∷ xs) = or_else (f earlier x) (first_case f (earlier ++ x ∷ []) xs)

abbrev pub first_in : {A R : Type 0} → (List A → A → Option R) → List A → Option R
first_in f xs = first_case f [] xs

abbrev pub refusal : ℕ → ℤ → ℤ → ℤ → Refusal
refusal rule at found wanted = record { rule = rule; at = at; found = found; wanted = wanted }

abbrev pub outside : ℤ → ℤ → ℤ → Bool
outside low high x = int_lt x low || int_lt high x

-- a number outside its range names the end that it passes
abbrev pub range_case : ℕ → ℤ → ℕ → ℕ → ℤ → Option Refusal
range_case rule at low high x =
    if int_lt x (pos low) then Some (refusal rule at x (pos low))
    else if int_lt (pos high) x then Some (refusal rule at x (pos high))
    else None

-- how many there are, where they are not 1 to so many
abbrev pub count_case : ℕ → ℕ → ℕ → ℕ → ℕ → Option Refusal
count_case rule at wanted most many =
    if nat_lt many 1 || nat_lt most many then Some (refusal rule (pos at) (pos many) (pos wanted)) else None
