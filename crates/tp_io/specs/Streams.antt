-- A reader or a writer of std with the count of its errors, and the bytes of a writer that tells them.
use Rattle.std.specs.Prelude.{ℕ, ◌≤◌, List, length, take, Option, Result, MatchResult, refl}
use Rattle.std.specs.Coded.{Coded, code_by, coded×, coded_ℕ}
use Rattle.std.specs.Io.KnownBytes.{Appends}

pub record Stream (T : Type 0) : Type 0 where
  pub inner : T
  pub faults : ℕ

abbrev pub coded_stream : {T : Type 0} → Coded T → Coded (Stream T)
coded_stream {T} inner = code_by (T × ℕ) (coded× inner coded_ℕ)
    (λ s. (s.inner, s.faults)) (λ p. record { inner = p.0; faults = p.1 }) (λ _. refl)

-- a front of the piece was appended
abbrev pub AppendsFront : Option (List ℕ) → Option (List ℕ) → List ℕ → Type 0
AppendsFront old new piece = (n : ℕ) × (n ≤ length piece) × Appends old new (take n piece)

-- a write appended as many bytes of the piece as it answers, or at an error a front of it, once
abbrev pub AppendsOnce : {E : Type 0} → Option (List ℕ) → Option (List ℕ) → Result ℕ E → List ℕ → Type 0
AppendsOnce old new result piece =
    MatchResult result (λ n. Appends old new (take n piece)) (λ _. AppendsFront old new piece)
