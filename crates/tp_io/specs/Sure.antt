-- How many more bytes a sink surely takes, where it tells that.
use Rattle.std.specs.Prelude.{◌≡◌, ℕ, ◌-◌, ◌<◌, List, length, Option, Result, MatchResult, option_map, IfSome}

-- after so many bytes it surely takes that many less
abbrev pub less : Option ℕ → ℕ → Option ℕ
less sure taken = option_map (λ n. n - taken) sure

-- the text is longer than what the sink surely takes, where that is told
abbrev pub Exceeds : Option ℕ → List ℕ → Type 0
Exceeds sure text = IfSome sure (λ n. n < length text)

-- a write takes of what the sink surely takes, and fails only where the piece is longer
abbrev pub Spends : {E : Type 0} → Option ℕ → Option ℕ → Result ℕ E → List ℕ → Type 0
Spends sure sure' result piece = MatchResult result (λ n. sure' ≡ less sure n) (λ _. Exceeds sure piece)
