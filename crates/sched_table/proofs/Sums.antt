-- The code's sums: what they are, and that they fit.
use Rattle.std.proofs.Common.{◌≡◌, ℕ, ◌+◌, ◌-◌, ◌*◌, ◌/◌, ◌%◌, ◌<◌, ◌≤◌, ◌⊎◌, inl, inr, List, [], ◌∷◌, ◌++◌, length, get_or, ap, ap₂, sym, ◌∙◌, arith, mod-lt}
use Rattle.std.proofs.lemmas.Bool.{cases_lt}
use Rattle.std.proofs.lemmas.List.{get_or_push, get_or_append_left, get_or_read_under}
use Rattle.sched_table.specs.declared.schedule.Entry.{Entry}
use Rattle.sched_table.specs.Schedule.{no_entry, entry_in, start, IsSchedule}
use Rattle.sched_table.specs.Laws.{cycles_before, round}
use Rattle.sched_table.specs.Tables.{IsTable}
use Rattle.sched_table.proofs.Starts.{before_more, round_start, start_in_round}

-- ---- one entry after the other

pub each_more : (es : List Entry) (before : List ℕ) (j sum : ℕ) → length before ≡ j → sum ≡ cycles_before es j
    → ((k : ℕ) → k < j → get_or before k 0 ≡ cycles_before es k)
    → (k : ℕ) → k < j + 1 → get_or (before ++ sum ∷ []) k 0 ≡ cycles_before es k
each_more es before j sum long is each k l = either (cases_lt k j)
  where
    either : (k < j) ⊎ (j ≤ k) → get_or (before ++ sum ∷ []) k 0 ≡ cycles_before es k
    either (inl earlier) = get_or_append_left before (sum ∷ []) 0 k (omega (arith, long, earlier)) ∙ each k earlier
    either (inr last) =
        let here : k ≡ j = omega (arith, l, last) in
        get_or_push before sum 0 k (omega (arith, long, here)) ∙ is ∙ ap (cycles_before es) (sym here)

pub sum_more : (es : List Entry) (j sum slot pad : ℕ) → j < length es → sum ≡ cycles_before es j
    → slot ≡ (entry_in es j).length → pad ≡ (entry_in es j).pad
    → sum + (slot + pad) ≡ cycles_before es (j + 1)
sum_more es j sum slot pad l is of_slot of_pad =
    let more = before_more es j l in
    omega (arith, is, of_slot, of_pad, more)

pub few_more : (es : List Entry) (j sum slot pad : ℕ) → IsSchedule es → sum ≤ 2000000 * j
    → slot ≡ (entry_in es j).length → pad ≡ (entry_in es j).pad
    → sum + (slot + pad) ≤ 2000000 * (j + 1)
few_more es j sum slot pad s few of_slot of_pad =
    let most = s.lengths j in
    let most_pad = s.pads j in
    omega (arith, few, of_slot, of_pad, most, most_pad)

-- ---- a start

-- n entries, of which the last was read
pub round_read : (es : List Entry) (before : List ℕ) (all n k wide pad : ℕ) (last : Entry)
    → IsTable es before all → n ≡ length es → wide ≡ k
    → last ≡ get_or es (n - 1) last → pad ≡ last.pad → pad + wide / n * all ≡ start es (k / length es * length es)
unfolding start
round_read es before all n k wide pad last t long same read of_pad =
    let some = t.schedule.some in
    let first : pad ≡ start es 0 =
    of_pad
    ∙ ap (λ (x : Entry). x.pad)
    (get_or_read_under es (n - 1) n last no_entry read (omega (arith, long, some)) long)
    ∙ ap (λ (m : ℕ). (entry_in es (m - 1)).pad) long in
    let rounds : wide / n * all ≡ k / length es * round es =
    ap₂ (λ (w m : ℕ). w / m * all) same long ∙ ap (λ (a : ℕ). k / length es * a) t.all_is in
    omega (arith, first, rounds, round_start es k)

-- what stands before slot k's entry was read, too
pub start_read : (es : List Entry) (before : List ℕ) (all n k begun here : ℕ) → IsTable es before all
    → n ≡ length es → begun ≡ start es (k / length es * length es)
    → here ≡ get_or before (k % n) here → begun + here ≡ start es k
start_read es before all n k begun here t long begins found =
    let some = t.schedule.some in
    let inside : k % n < n = mod-lt k (omega (arith, long, some)) in
    let at : here ≡ cycles_before es (k % length es) =
    get_or_read_under before (k % n) n here 0 found inside (long ∙ sym t.long)
    ∙ ap (λ (m : ℕ). get_or before (k % m) 0) long ∙ t.each (k % length es) (mod-lt k some) in
    omega (arith, at, begins, start_in_round es k some)
