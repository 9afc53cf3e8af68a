-- When slots begin, from the sums of the entries before them.
use Rattle.std.proofs.Common.{◌≡◌, ℕ, zero, suc, ◌+◌, ◌-◌, ◌*◌, ◌/◌, ◌%◌, ◌<◌, ◌≤◌, List, length, take, refl, sym, ap, ◌∙◌, subst, arith, add-one, mod-lt}
use Rattle.std.proofs.Math.Nat.{le_of_eq, mod-eq_of_lt, mod-add-div', add-mod_right}
use Rattle.std.proofs.lemmas.Nat.{div-add-mod'}
use Rattle.std.proofs.lemmas.List.{take_more}
use Rattle.std.specs.List.{sum_by}
use Rattle.std.proofs.lemmas.List.Sums.{sum_by_push}
use Rattle.sched_table.specs.declared.schedule.Entry.{Entry}
use Rattle.sched_table.specs.Schedule.{no_entry, entry_in, entry_of_slot, start, IsSchedule}
use Rattle.sched_table.specs.Laws.{cycles_of, cycles_before, round, RoundLaw, OrderLaw, PadLaw, SoonLaw}

-- ---- laws

pub pad_law : PadLaw
unfolding start
pad_law es zero = omega arith
pad_law es (suc k) = refl

ordered : (es : List Entry) (j d : ℕ) → start es j ≤ start es (d + j)
unfolding start
ordered es j zero = let same : 0 + j ≡ j = omega arith in le_of_eq (ap (start es) (sym same))
ordered es j (suc d) =
    let before = ordered es j d in
    let same : suc d + j ≡ suc (d + j) = omega arith in
    subst (λ (n : ℕ). start es j ≤ start es n) (sym same) (omega (arith, before))

pub order_law : OrderLaw
order_law es j k le =
    let split : (k - j) + j ≡ k = omega (arith, le) in
    subst (λ (n : ℕ). start es j ≤ start es n) split (ordered es j (k - j))

pub soon_law : SoonLaw
unfolding start
soon_law es zero s = s.pads (_)
soon_law es (suc k) s =
    let before = soon_law es k s in
    let slot = s.lengths (k % length es) in
    let pad = s.pads (k % length es) in
    omega (arith, before, slot, pad)

-- ---- within a round

pub before_more : (es : List Entry) (j : ℕ) → j < length es
    → cycles_before es (j + 1) ≡ cycles_before es j + cycles_of (entry_in es j)
unfolding cycles_before
before_more es j l =
    ap (λ (xs : List Entry). sum_by cycles_of xs) (take_more es j no_entry l)
    ∙ sum_by_push cycles_of (take j es) (entry_in es j)

pub slot_in_round : (es : List Entry) (j : ℕ) → j < length es → entry_of_slot es j ≡ entry_in es j
slot_in_round es j l = ap (entry_in es) (mod-eq_of_lt l)

first_round : (es : List Entry) (j : ℕ) → j ≤ length es → start es j ≡ start es 0 + cycles_before es j
unfolding start cycles_before
first_round es zero l = omega arith
first_round es (suc j) l =
    let before = first_round es j (omega (arith, l)) in
    let here = slot_in_round es j l in
    let slot = ap (λ (e : Entry). e.length) here in
    let pad = ap (λ (e : Entry). e.pad) here in
    let more = ap (cycles_before es) (sym (add-one j)) ∙ before_more es j l in
    omega (arith, before, slot, pad, more)

-- ---- round after round

pub round_law : RoundLaw
unfolding start
round_law es zero = let same : 0 + length es ≡ length es = omega arith in ap (start es) same ∙ first_round es (length es) (omega arith)
round_law es (suc k) =
    let before = round_law es k in
    let here = ap (entry_in es) (add-mod_right k (length es)) in
    let slot = ap (λ (e : Entry). e.length) here in
    let pad = ap (λ (e : Entry). e.pad) here in
    let same : suc k + length es ≡ suc (k + length es) = omega arith in
    ap (start es) same ∙ omega (arith, before, slot, pad)

rounds_later : (es : List Entry) (j q : ℕ) → start es (j + q * length es) ≡ start es j + q * round es
rounds_later es j zero = let same : j + 0 * length es ≡ j = omega arith in ap (start es) same ∙ omega arith
rounds_later es j (suc q) =
    let before = rounds_later es j q in
    let more = round_law es (j + q * length es) in
    let same : j + suc q * length es ≡ j + q * length es + length es = omega arith in
    ap (start es) same ∙ more ∙ omega (arith, before)

-- when slot k's round begins
pub round_start : (es : List Entry) (k : ℕ)
    → start es (k / length es * length es) ≡ start es 0 + k / length es * round es
round_start es k =
    let same : k / length es * length es ≡ 0 + k / length es * length es = omega arith in
    ap (start es) same ∙ rounds_later es 0 (k / length es)

pub round_soon : (es : List Entry) (k : ℕ) → IsSchedule es
    → start es (k / length es * length es) ≤ 2000000 * k + 1000000
round_soon es k s = let soon = soon_law es (k / length es * length es) s in omega (arith, soon, div-add-mod' k (length es))

-- the entries before slot k's in its round are still to come
pub start_in_round : (es : List Entry) (k : ℕ) → 0 < length es
    → start es k ≡ start es (k / length es * length es) + cycles_before es (k % length es)
start_in_round es k some =
    let n = length es in
    let later = rounds_later es (k % n) (k / n) in
    let first = first_round es (k % n) (omega (arith, mod-lt k some)) in
    ap (start es) (sym (mod-add-div' k n)) ∙ later ∙ omega (arith, first, round_start es k)
