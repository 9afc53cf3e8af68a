-- The rules give up a way that there is.
use Rattle.std.proofs.Common.{◌≡◌, ℕ, zero, suc, ◌+◌, ◌*◌, ◌^◌, ◌<◌, ◌≤◌, Bool, true, false, cond, ltb, List, [], ◌∷◌, Option, Some, None, unwrap_or, arith}
use Rattle.std.specs.Prelude.{All}
use Rattle.std.specs.Option.{option_or}
use Rattle.std.proofs.lemmas.List.Elements.{All-head, All-tail}
use Rattle.std.proofs.Math.Nat.{pow-suc}
use Rattle.repl_policy.specs.Orders.{has, oldest, last_way, least_unlisted}
use Rattle.repl_policy.specs.Halves.{victim_in, other_half, half_away, newest_in, depth_of, UpToSixteen, IsPowerUpToSixteen}
use Rattle.repl_policy.specs.Marks.{unmarked}
use Rattle.repl_policy.specs.Members.{any_takes, any_rule}
use Rattle.repl_policy.specs.declared.AnyPolicy.{AnyPolicy}
use Rattle.repl_policy.specs.declared.AnyPolicy.TheVariants.{Lru, Fifo, TreePlru, Nmru}

last_way_lt : (ways way : ℕ) (list : List ℕ) → way < ways → All (λ w. w < ways) list
    → last_way way list < ways
last_way_lt ways way [] lt below = lt
last_way_lt ways way (next ∷ list) lt below =
    last_way_lt ways next list (All-head (λ w. w < ways) next list below)
    (All-tail (λ w. w < ways) next list below)

or_lt : (ways way : ℕ) (a b : Option ℕ) → unwrap_or a way < ways → unwrap_or b way < ways
    → unwrap_or (option_or a b) way < ways
or_lt ways way None b x y = y
or_lt ways way (Some w) b x y = x

unlisted_lt : (ways way next : ℕ) (listed : Bool) → way < ways → next < ways
    → unwrap_or (cond listed None (Some next)) way < ways
unlisted_lt ways way next true x y = x
unlisted_lt ways way next false x y = y

least_lt : (ways n way : ℕ) (list : List ℕ) → n ≤ ways → way < ways
    → unwrap_or (least_unlisted n list) way < ways
least_lt ways zero way list le lt = lt
least_lt ways (suc n) way list le lt =
    or_lt ways way (least_unlisted n list) (cond (has list n) None (Some n))
    (least_lt ways n way list (omega arith) lt) (unlisted_lt ways way n (has list n) lt (omega arith))

oldest_lt : (ways : ℕ) (list : List ℕ) → 0 < ways → All (λ w. w < ways) list → oldest ways list < ways
oldest_lt ways list some below =
    least_lt ways ways (last_way 0 list) list (omega arith) (last_way_lt ways 0 list some below)

half_away_le : (middle : ℕ) (newest : Option ℕ) → half_away middle newest ≤ 1
half_away_le middle None = omega arith
half_away_le middle (Some way) =
    elim (ltb way middle) as (λ b. cond b 1 0 ≤ 1) [ true ↦ omega arith | false ↦ omega arith ]

-- from a range, the victim lies in it
pub victim_in_lt : (depth low : ℕ) (list : List ℕ) → victim_in depth low list < low + 2 ^ depth
victim_in_lt zero low list = omega arith
victim_in_lt (suc depth) low list =
    let half : ℕ = other_half depth low list in
    let one : half ≤ 1 = half_away_le (low + 2 ^ depth) (newest_in low (2 ^ suc depth) list) in
    let rest : victim_in depth (low + half * 2 ^ depth) list < low + half * 2 ^ depth + 2 ^ depth =
    victim_in_lt depth (low + half * 2 ^ depth) list in
    let double : 2 ^ suc depth ≡ 2 ^ depth * 2 = pow-suc 2 depth in
    let part : half * 2 ^ depth ≤ 1 * 2 ^ depth = grind arith in
    omega (arith, rest, double, part)

pub oldest_below : {P : Type 0} (policy : P) (ways : ℕ) (list : List ℕ) → UpToSixteen ways
    → All (λ way. way < ways) list → oldest ways list < ways
oldest_below policy ways list taken below = oldest_lt ways list taken.0 below

pub victim_in_below : {P : Type 0} (policy : P) (ways : ℕ) (list : List ℕ) → IsPowerUpToSixteen ways
    → All (λ way. way < ways) list
    → victim_in (depth_of ways) 0 list < ways
victim_in_below policy ways list taken below =
    let h = victim_in_lt (depth_of ways) 0 list in
    omega (arith, h, taken.2)

pub unmarked_below : {P : Type 0} (policy : P) (ways : ℕ) (list : List ℕ) → UpToSixteen ways
    → All (λ way. way < ways) list → unmarked ways list < ways
unfolding unmarked
unmarked_below policy ways list taken below = least_lt ways ways 0 list (omega arith) taken.0

pub any_victim_below : (policy : AnyPolicy) (ways : ℕ) (list : List ℕ) → any_takes policy ways
    → All (λ way. way < ways) list → (any_rule policy ways).victim list < ways
any_victim_below Lru ways list taken below = oldest_lt ways list taken.0 below
any_victim_below Fifo ways list taken below = oldest_lt ways list taken.0 below
any_victim_below TreePlru ways list taken below = victim_in_below TreePlru ways list taken below
any_victim_below Nmru ways list taken below = unmarked_below Nmru ways list taken below
