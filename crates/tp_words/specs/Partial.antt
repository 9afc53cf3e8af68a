-- Readers that may find nothing.
use Rattle.std.specs.Prelude.{Bool, Option, Some, None, option_and_then, if◌then◌else◌}

infixl 10 ◌>>=◌
abbrev pub ◌>>=◌ : {A B : Type 0} → Option A → (A → Option B) → Option B
o >>= f = option_and_then f o

infixl 10 ◌>>◌
abbrev pub ◌>>◌ : {A B : Type 0} → Option A → Option B → Option B
o >> p = option_and_then (λ _. p) o

-- goes on where the test passes
abbrev pub when : Bool → Option (Unit {0})
when test = if test then Some tt else None
