use Rattle.std.proofs.Common.{arith, ◌≡◌, ◌≢◌, ◌∙◌, ℕ, ◌<◌, ◌≤◌, ◌/◌, ◌%◌, ◌⊎◌, inl, inr, Bool, true, false, List, length, Option, Some, None, set, ap, sym, refl, get_or-set_same, get_or-set_other}
use Rattle.std.specs.Prelude.{◌==◌, ◌||◌, slice_index_or}
use Rattle.std.proofs.lemmas.Bool.Decides.{nat_tests}
use Rattle.std.proofs.lemmas.Bool.{cases_lt}
use Rattle.std.proofs.Math.ListN.{length-set}
use Rattle.std.proofs.lemmas.Nat.{mod_below}
use Rattle.branch_pred.specs.declared.Jump.{Jump}
use Rattle.branch_pred.specs.Guesses.{Guesses, is_that, is_known, gone}
use Rattle.branch_pred.proofs.targets_are_kept.Goals as goal

same_number : (n : ℕ) → (n == n) ≡ true
same_number n = grind (arith, nat_tests)

no_number : (n : ℕ) → n ≤ 0 → (n == 0) ≡ true
no_number n none = grind (arith, nat_tests, none)

is_itself : (jump : Jump) → is_that jump (Some jump) ≡ true
is_itself jump = rw (same_number jump.pc, same_number jump.target) refl

or_true : (b : Bool) → (b || true) ≡ true
or_true true = refl
or_true false = refl

pub returns-clause-same : goal.returns-clause-same
returns-clause-same c = λ guesses sound jump.
    let xs = guesses.targets in
    let place : ℕ = jump.pc / 4 % length xs in
    rw (length-set xs place (Some jump))
    (elim (cases_lt 0 (length xs)) [
      | inl some ↦
          ap (λ (o : Option Jump). (length xs == 0) || is_that jump o)
          (get_or-set_same xs place (Some jump) None (mod_below (jump.pc / 4) (length xs) some))
          ∙ ap (λ (b : Bool). (length xs == 0) || b) (is_itself jump) ∙ or_true (length xs == 0)
      | inr none ↦ rw (no_number (length xs) none) refl
    ])

pub returns-clause-apart : goal.returns-clause-apart
returns-clause-apart c = λ guesses sound jump other apart.
    let xs = guesses.targets in
    let place : ℕ = other.pc / 4 % length xs in
    rw (length-set xs place (Some other))
    (ap (λ (o : Option Jump). (length xs == 0) || is_that jump o)
    (get_or-set_other xs place (jump.pc / 4 % length xs) (Some other) None apart))
