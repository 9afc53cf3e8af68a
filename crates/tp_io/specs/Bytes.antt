-- What reads and writes do to the bytes that a source has left and a sink holds, where these are told.
use Rattle.std.specs.Prelude.{◌≡◌, ℕ, ◌<◌, ◌≤◌, List, [], ◌++◌, length, take, Option, Result, MatchResult, option_map, IfSome}

-- these bytes, and then the known ones
abbrev pub before_known : List ℕ → Option (List ℕ) → Option (List ℕ)
before_known bytes known = option_map (λ xs. bytes ++ xs) known

-- the known bytes, and then these
abbrev pub after_known : Option (List ℕ) → List ℕ → Option (List ℕ)
after_known known bytes = option_map (λ xs. xs ++ bytes) known

-- no byte is left, where that is told
abbrev pub AtEnd : Option (List ℕ) → Type 0
AtEnd known = IfSome known (λ xs. xs ≡ [])

-- a read took the bytes that it put at the front of the buffer, or nothing where it failed;
-- it put none only at the end of the input, or into an empty buffer
abbrev pub Takes : {E : Type 0} → Option (List ℕ) → Option (List ℕ) → Result ℕ E → List ℕ → Type 0
Takes old new result buffer = MatchResult result
    (λ n. (n ≤ length buffer) × (old ≡ before_known (take n buffer) new)
    × (n ≡ 0 → 0 < length buffer → AtEnd new))
    (λ _. new ≡ old)

-- a write appended the front of the piece, some of it unless the piece is empty, or nothing where it failed
abbrev pub Puts : {E : Type 0} → Option (List ℕ) → Option (List ℕ) → Result ℕ E → List ℕ → Type 0
Puts old new result piece = MatchResult result
    (λ n. (n ≤ length piece) × (new ≡ after_known old (take n piece)) × (0 < length piece → 0 < n))
    (λ _. new ≡ old)

-- some bytes were taken
abbrev pub TakesSome : Option (List ℕ) → Option (List ℕ) → Type 0
TakesSome old new = (bytes : List ℕ) × (old ≡ before_known bytes new)

-- a front of these bytes was appended
abbrev pub PutsFront : Option (List ℕ) → Option (List ℕ) → List ℕ → Type 0
PutsFront old new bytes = (n : ℕ) × (n ≤ length bytes) × (new ≡ after_known old (take n bytes))
