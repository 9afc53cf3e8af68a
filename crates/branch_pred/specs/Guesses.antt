-- What guesses whether a branch is taken, and where jumps go: two-bit counters, the last outcomes, and a target buffer.
use Rattle.std.specs.Prelude.{◌≡◌, ℕ, ◌+◌, ◌-◌, ◌*◌, ◌/◌, ◌%◌, ◌^◌, ◌<◌, ◌≤◌, ◌==◌, ◌&&◌, ◌||◌, ◌⊎◌, Bool, true, false, not, List, [], ◌∷◌, length, All, slice_index, slice_index_or, slice_set, replicate, take, nat_lt, nat_le, bit_xor, Option, Some, None, if◌then◌else◌}
use Rattle.std.specs.Int.{IsPowerOfTwo}
use Rattle.branch_pred.specs.declared.Sizes.{Sizes}
use Rattle.branch_pred.specs.declared.Jump.{Jump}

-- what a predictor keeps
pub record Guesses : Type 0 where
  pub counters : List ℕ
  pub outcomes : ℕ  -- how many the history has
  pub history : ℕ  -- the last outcomes, the newest in the lowest bit: 1 where the branch was taken
  pub targets : List (Option Jump)  -- the target buffer, or nothing

-- every counter at 1, no outcome, no target
abbrev pub fresh_guesses : Sizes → Guesses
fresh_guesses s = record {
  counters = replicate s.counters 1;
  outcomes = s.history;
  history = 0;
  targets = replicate s.targets None;
}

abbrev pub sizes_of : Guesses → Sizes
sizes_of guesses = record {
  counters = length guesses.counters;
  history = guesses.outcomes;
  targets = length guesses.targets;
}

-- ---- whether a branch is taken

-- the place of a branch's counter: its pc divided by 4, with the history, by the number of counters
abbrev pub counter_place : Guesses → ℕ → ℕ
counter_place guesses pc = bit_xor (pc / 4) guesses.history % length guesses.counters

abbrev pub counter_of : Guesses → ℕ → ℕ
counter_of guesses pc = slice_index guesses.counters (counter_place guesses pc)

-- taken at 2 and 3
abbrev pub guess_of : Guesses → ℕ → Bool
guess_of guesses pc = nat_le 2 (counter_of guesses pc)

-- a taken branch adds one, up to 3; another takes one away, down to 0
abbrev pub next_counter : Bool → ℕ → ℕ
next_counter true counter = if nat_lt counter 3 then counter + 1 else 3
next_counter false counter = counter - 1

-- the newest outcome goes in, the oldest out
abbrev pub shifted : ℕ → ℕ → Bool → ℕ
shifted outcomes history taken = (2 * history + (if taken then 1 else 0)) % 2 ^ outcomes

-- the counter of the guess is taught, and then the outcome goes into the history
abbrev pub learned : Guesses → ℕ → Bool → Guesses
learned guesses pc taken =
    record guesses {
      counters =
          slice_set guesses.counters (counter_place guesses pc) (next_counter taken (counter_of guesses pc));
      history = shifted guesses.outcomes guesses.history taken;
    }

-- ---- where a jump goes

-- the place of a jump: its pc divided by 4, by the number of places
abbrev pub target_place : List (Option Jump) → ℕ → ℕ
target_place targets pc = pc / 4 % length targets

abbrev pub is_that : Jump → Option Jump → Bool
is_that jump None = false
is_that jump (Some kept) = kept.pc == jump.pc && kept.target == jump.target

-- its place has exactly this pc and this target; a predictor without a target buffer is never asked
abbrev pub is_known : Guesses → Jump → Bool
is_known guesses jump =
    length guesses.targets == 0
    || is_that jump (slice_index_or guesses.targets (target_place guesses.targets jump.pc) None)

-- its place becomes this pc and this target
abbrev pub gone : Guesses → Jump → Guesses
gone guesses jump =
    record guesses { targets = slice_set guesses.targets (target_place guesses.targets jump.pc) (Some jump) }

-- ---- both

abbrev pub jump : ℕ → ℕ → Jump
jump pc target = record { pc = pc; target = target }

-- a jump is wrong by its target
abbrev pub is_wrong_jump : Guesses → ℕ → ℕ → Bool
is_wrong_jump guesses pc target = not (is_known guesses (jump pc target))

abbrev pub jumped : Guesses → ℕ → ℕ → Guesses
jumped guesses pc target = gone guesses (jump pc target)

-- a branch by its guess, or, where it is taken, by its target
abbrev pub is_wrong_branch : Guesses → ℕ → Bool → ℕ → Bool
is_wrong_branch guesses pc true target = not (guess_of guesses pc) || is_wrong_jump guesses pc target
is_wrong_branch guesses pc false target = guess_of guesses pc

-- one that is taken jumps, too
abbrev pub branched : Guesses → ℕ → Bool → ℕ → Guesses
branched guesses pc true target = jumped (learned guesses pc true) pc target
branched guesses pc false target = learned guesses pc false

-- ---- what is a predictor

-- the numbers of counters and of targets are powers of two, but that there may be no targets; a history has at most 8 outcomes
pub record AreSizes (s : Sizes) : Type 0 where
  pub counters : IsPowerOfTwo s.counters
  pub history : s.history ≤ 8
  pub targets : (s.targets ≡ 0) ⊎ IsPowerOfTwo s.targets

-- each counter is 0 to 3, and the history has so many outcomes
pub record AreCounters (guesses : Guesses) : Type 0 where
  pub power : IsPowerOfTwo (length guesses.counters)
  pub small : All (λ counter. counter < 4) guesses.counters
  pub few : guesses.outcomes ≤ 8
  pub history : guesses.history < 2 ^ guesses.outcomes
  pub targets : (length guesses.targets ≡ 0) ⊎ IsPowerOfTwo (length guesses.targets)

-- kept with the largest history of so many outcomes
pub record IsPredictor (largest : ℕ) (guesses : Guesses) : Type 0 where
  pub sound : AreCounters guesses
  pub next : largest + 1 ≡ 2 ^ guesses.outcomes

-- ---- the history as outcomes, the newest first

-- the number of which they are the binary digits, the newest the lowest
abbrev pub binary_number : List Bool → ℕ
binary_number [] = 0
binary_number (taken ∷ outcomes) = (if taken then 1 else 0) + 2 * binary_number outcomes

-- after these outcomes
abbrev pub history_after : ℕ → List Bool → ℕ
history_after length [] = 0
history_after length (taken ∷ outcomes) = shifted length (history_after length outcomes) taken
