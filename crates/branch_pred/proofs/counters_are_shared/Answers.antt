use Rattle.std.proofs.Common.{◌≡◌, ◌≢◌, ◌∙◌, ◌<◌, ◌/◌, ◌%◌, ℕ, List, length, set, ap, sym, get_or-set_same, get_or-set_other}
use Rattle.std.specs.Prelude.{slice_index, bit_xor}
use Rattle.std.proofs.lemmas.Nat.{mod_below}
use Rattle.set_cache.proofs.Powers.{positive}
use Rattle.branch_pred.specs.Guesses.{Guesses, counter_place, counter_of, next_counter}
use Rattle.branch_pred.proofs.counters_are_shared.Goals as goal

pub returns-clause-together : goal.returns-clause-together
returns-clause-together c = λ guesses sound pc other taken same.
    let xs : List ℕ = guesses.counters in
    let p : ℕ = counter_place guesses pc in
    let v : ℕ = next_counter taken (counter_of guesses pc) in
    let below : p < length xs = mod_below (bit_xor (pc / 4) guesses.history) (length xs) (positive (length xs) sound.power) in
    ap (λ (j : ℕ). slice_index (set xs p v) j) (sym same)
    ∙ get_or-set_same xs p v 0 below ∙ ap (λ (j : ℕ). next_counter taken (slice_index xs j)) same

pub returns-clause-apart : goal.returns-clause-apart
returns-clause-apart c = λ guesses sound pc other taken apart.
    let v : ℕ = next_counter taken (counter_of guesses pc) in
    get_or-set_other guesses.counters (counter_place guesses pc) (counter_place guesses other) v 0 (λ e. apart (sym e))
