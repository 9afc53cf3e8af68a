-- The history as the digits of its outcomes.
use Rattle.std.proofs.Common.{◌≡◌, ◌∙◌, ℕ, zero, suc, ◌+◌, ◌*◌, ◌%◌, ◌^◌, ◌<◌, Bool, true, false, List, [], ◌∷◌, take, ap, refl, arith}
use Rattle.std.specs.Prelude.{if◌then◌else◌}
use Rattle.std.proofs.lemmas.Nat.{mod_low, mod_below, pow_pos}
use Rattle.std.proofs.Math.Nat.{pow-suc}
use Rattle.branch_pred.specs.Guesses.{binary_number, shifted, history_after}

abbrev digit : Bool → ℕ
digit taken = if taken then 1 else 0

digit_small : (taken : Bool) → digit taken < 2
digit_small true = omega arith
digit_small false = omega arith

pub number_small : (n : ℕ) (outcomes : List Bool) → binary_number (take n outcomes) < 2 ^ n
number_small zero outcomes = omega arith
number_small (suc n) [] = pow_pos (suc n)
number_small (suc n) (taken ∷ outcomes) =
    let double : 2 ^ suc n ≡ 2 ^ n * 2 = pow-suc 2 n in
    let small = number_small n outcomes in
    let one = digit_small taken in
    omega (arith, double, small, one)

-- one outcome more is one digit more at the top
pub one_more : (n : ℕ) (outcomes : List Bool)
    → (top : ℕ) × (binary_number (take (suc n) outcomes) ≡ top * 2 ^ n + binary_number (take n outcomes))
one_more zero [] = (0, omega arith)
one_more (suc n) [] = (0, omega arith)
one_more zero (taken ∷ outcomes) = (digit taken, omega arith)
one_more (suc n) (taken ∷ outcomes) =
    let rest = one_more n outcomes in
    let double : 2 ^ suc n ≡ 2 ^ n * 2 = pow-suc 2 n in
    let product : rest.0 * 2 ^ suc n ≡ rest.0 * (2 ^ n * 2) = ap (λ (k : ℕ). rest.0 * k) double in
    (rest.0, omega (arith, rest.1, product))

-- the newest outcome shifted in
pub shifts : (n : ℕ) (outcomes : List Bool) (taken : Bool)
    → shifted n (binary_number (take n outcomes)) taken ≡ binary_number (take n (taken ∷ outcomes))
shifts zero outcomes taken = let none = mod_below (0 + digit taken) 1 (omega arith) in omega (arith, none)
shifts (suc n) outcomes taken =
    let more = one_more n outcomes in
    let low : ℕ = digit taken + 2 * binary_number (take n outcomes) in
    let double : 2 ^ suc n ≡ 2 ^ n * 2 = pow-suc 2 n in
    let product : more.0 * 2 ^ suc n ≡ more.0 * (2 ^ n * 2) = ap (λ (k : ℕ). more.0 * k) double in
    let small = number_small n outcomes in
    let one = digit_small taken in
    let whole : 2 * binary_number (take (suc n) outcomes) + digit taken ≡ more.0 * 2 ^ suc n + low = omega (arith, more.1, product) in
    ap (λ (k : ℕ). k % 2 ^ suc n) whole ∙ mod_low more.0 (suc n) low (omega (arith, double, small, one))

pub last_outcomes : (n : ℕ) (outcomes : List Bool)
    → history_after n outcomes ≡ binary_number (take n outcomes)
last_outcomes zero [] = refl
last_outcomes (suc n) [] = refl
last_outcomes n (taken ∷ outcomes) =
    ap (λ (h : ℕ). shifted n h taken) (last_outcomes n outcomes) ∙ shifts n outcomes taken
