-- The worked rows: which ends lie apart.
use Rattle.std.proofs.Common.{◌≡◌, ℕ, zero, suc, ◌+◌, ◌≤◌, inl, inr, ap, refl, subst, arith}
use Rattle.std.proofs.lemmas.Option.{same_Some}
use Rattle.sched_table.specs.Schedule.{start, entries_on, hart_for}
use Rattle.kernel_clone.specs.Permissions.{may_make, calls_below}
use Rattle.pad_bound.specs.Bound.{most_written, worst_instruction, worst_operation}
use Rattle.world_view.specs.Harts.{end_on, hart_of_domain}
use Rattle.mail_orders.specs.Apart.{longest_in, EndsBefore, AreApart}
use Rattle.mail_orders.specs.Example.{beside, EarlyRow, NotEarlyRow, NotApartRow, ApartRow, ChainApartRow}

-- the longest event and the ends, whatever the length of green's slot
red_longest : (length : ℕ) → longest_in (beside length) 0 0 ≡ 4583
unfolding worst_instruction worst_operation most_written may_make calls_below entries_on
red_longest length = refl

green_longest : (length : ℕ) → longest_in (beside length) 1 0 ≡ 4583
unfolding worst_instruction worst_operation most_written may_make calls_below entries_on
green_longest length = refl

red_end : (length : ℕ) → end_on (beside length) 0 0 ≡ 40000
unfolding start entries_on
red_end length = refl

green_end : (length : ℕ) → end_on (beside length) 1 0 ≡ 30000 + length
unfolding start entries_on
green_end length = refl

-- in either order
not_apart_by : (length : ℕ) → 5418 ≤ length → length ≤ 10000 → EndsBefore (beside length) 0 0 1 0 → ⊥
not_apart_by length least most ends =
    let red = red_end length in
    let green = green_end length in
    let long = red_longest length in
    omega (arith, ends, red, green, long, most)

not_early_by : (length : ℕ) → 5418 ≤ length → EndsBefore (beside length) 1 0 0 0 → ⊥
not_early_by length least ends =
    let red = red_end length in
    let green = green_end length in
    let long = green_longest length in
    omega (arith, ends, red, green, long, least)

pub early : EarlyRow
early =
    let red = red_end 5417 in
    let green = green_end 5417 in
    let long = green_longest 5417 in
    omega (arith, red, green, long)

pub not_early : NotEarlyRow
not_early ends = not_early_by 5418 (omega arith) ends

pub not_apart : NotApartRow
not_apart apart = elim (apart 0 0 (omega arith) (omega arith)) [
  | inl ends ↦ not_apart_by 9999 (omega arith) (omega arith) ends
  | inr ends ↦ not_early_by 9999 (omega arith) ends
]

pub apart : ApartRow
apart zero zero few fewer = inr early
apart (suc k) m few fewer = absurd (omega (arith, few))
apart zero (suc m) few fewer = absurd (omega (arith, fewer))

-- of its one box
pub chain_apart : ChainApartRow
unfolding hart_for
chain_apart zero e f mail leads other =
    let from : 0 ≡ e = ap (λ (p : ℕ × ℕ). p.0) (same_Some (0, 1) (e, f) mail) in
    let to : 1 ≡ f = ap (λ (p : ℕ × ℕ). p.1) (same_Some (0, 1) (e, f) mail) in
    subst (λ (n : ℕ). AreApart (beside 5417) 2 (hart_of_domain (beside 5417) n) (hart_of_domain (beside 5417) f)) from
    (subst (λ (n : ℕ). AreApart (beside 5417) 2 0 (hart_of_domain (beside 5417) n)) to apart)
chain_apart (suc a) e f mail leads other = absurd (cc mail)
