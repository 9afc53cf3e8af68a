-- What a caller in C gets.
use Rattle.std.specs.Prelude.{◌≡◌, ◌≢◌, ℕ, ◌<◌, ◌≤◌, List, [], ◌++◌, length, take, drop, Option, Some}
use Rattle.tp_answer.specs.Answer.{Answer}
use Rattle.tp_answer.specs.Status.{exit_number}

-- the answer that is due: its status by the program's exit code, and its text at the front of the buffer, in which
-- nothing else changed
pub record Hands (due : Answer) (number taken : ℕ) (old new : List ℕ) : Type 0 where
  pub status : number ≡ exit_number due.0
  pub wanted : taken ≡ length due.1
  pub fits : taken ≤ length old
  pub text : new ≡ due.1 ++ drop taken old

-- by the number of a call, the length that it tells, and the buffer before and after: the answer that is due, unless the
-- buffer is too small for its text (7), which leaves the buffer and tells the length that is wanted, or memory ran out (5)
pub record Answers (due : Answer) (number taken : ℕ) (old new : List ℕ) : Type 0 where
  pub told : number ≢ 5 → number ≢ 7 → Hands due number taken old new
  pub too_small : number ≡ 7 → (taken ≡ length due.1) × (length old < taken) × (new ≡ old)
  pub memory : number ≡ 5 → (taken ≡ 0) × (new ≡ old)

-- what the top call promises of its source and its sink, where an image in memory is read to its end, and the text
-- stands at the front of a buffer
abbrev pub InMemory : (Option (List ℕ) → Option (List ℕ) → Option (List ℕ) → Option (List ℕ) → Type 0)
    → List ℕ → ℕ → List ℕ → Type 0
InMemory P image taken text = P (Some image) (Some []) (Some []) (Some (take taken text))
