-- What a footprint costs at its worst: its touches of each kind, counted.
use Rattle.std.proofs.Common.{◌≡◌, ◌∙◌, ◌+◌, ◌*◌, ◌/◌, ◌%◌, ℕ, List, [], ◌∷◌, ◌++◌, length, map, Option, Some, None, true, false, ap, refl, arith}
use Rattle.std.specs.Prelude.{if◌then◌else◌}
use Rattle.std.specs.List.{range_with_len}
use Rattle.std.proofs.lemmas.List.FromFn.{length-range_with_len}
use Rattle.std.proofs.lemmas.List.Sums.{sum_by-append, sum_by-cons}
use Rattle.cycle_cost.specs.Costs.{CostTable}
use Rattle.kernel_clone.specs.Footprints.{Layout, WorkDone, LineTouch, touches, text_touches, stack_touches, data_touches, shared_touches, zeroed_touches, entry_touches, written_touches, touch_of, text_line, line_of, shared_line, shared_lines, lines_in_frame, data_count, is_of_switch}
use Rattle.kernel_clone.specs.Laws.{shared_count, zeroed_count}
use Rattle.kernel_clone.specs.declared.Kind.{Kind}
use Rattle.kernel_clone.specs.declared.Kind.TheVariants.{Fetch, Load, Store}
use Rattle.pad_bound.specs.Bound.{worst_fetch, worst_access}
use Rattle.pad_bound.specs.Worst.{worst, worst_of, lines_written, prefetch_touches}

-- ---- lists of touches

worst_of-append : (c : CostTable) (again : ℕ) (ts us : List LineTouch)
    → worst_of c again (ts ++ us) ≡ worst_of c again ts + worst_of c again us
unfolding worst_of
worst_of-append c again ts us = sum_by-append (λ (t : LineTouch). worst c again t.kind) ts us

-- touches of one kind
worst_of-kind : {X : Type 0} → (c : CostTable) (again : ℕ) (kind : Kind) (line : X → ℕ) (xs : List X)
    → worst_of c again (map (λ x. touch_of kind (line x)) xs) ≡ length xs * worst c again kind
unfolding worst_of
worst_of-kind c again kind line [] = omega arith
worst_of-kind c again kind line (x ∷ xs) =
    let more = worst_of-kind c again kind line xs in
    let first = sum_by-cons (λ (t : LineTouch). worst c again t.kind) (touch_of kind (line x)) (map (λ x. touch_of kind (line x)) xs) in
    omega (arith, first, more)

worst_of-range : (c : CostTable) (again : ℕ) (kind : Kind) (line : ℕ → ℕ) (n : ℕ)
    → worst_of c again (map (λ i. touch_of kind (line i)) (range_with_len 0 n)) ≡ n * worst c again kind
worst_of-range c again kind line n =
    worst_of-kind c again kind line (range_with_len 0 n) ∙ ap (λ (m : ℕ). m * worst c again kind) (length-range_with_len 0 n)

-- ---- the parts

worst_of-text : (c : CostTable) (again : ℕ) (l : Layout) (op : ℕ)
    → worst_of c again (text_touches l op) ≡ 4 * worst_fetch c again
unfolding text_touches
worst_of-text c again l op = worst_of-range c again Fetch (λ i. text_line l ((4 * op + i) % (2 * lines_in_frame l))) 4

worst_of-stack : (c : CostTable) (again : ℕ) (l : Layout)
    → worst_of c again (stack_touches l) ≡ 2 * worst_access c again
unfolding stack_touches
worst_of-stack c again l = worst_of-range c again Store (λ i. line_of l l.stack i) 2

worst_of-data : (c : CostTable) (again : ℕ) (l : Layout) (op : ℕ)
    → worst_of c again (data_touches l op) ≡ data_count op * worst_access c again
unfolding data_touches
worst_of-data c again l op = worst_of-range c again Store (λ i. line_of l l.data_frame ((2 * op + i) % lines_in_frame l)) (data_count op)

worst_of-shared : (c : CostTable) (again : ℕ) (l : Layout) (op : ℕ)
    → worst_of c again (shared_touches l op) ≡ shared_count op * worst_access c again
unfolding shared_touches
worst_of-shared c again l op =
    elim (is_of_switch op) as
    (λ b. worst_of c again (if b then [] else touch_of Load (shared_line l (op % shared_lines l)) ∷ [])
    ≡ (if b then 0 else 1) * worst_access c again) [
      | true ↦ worst_of-kind c again Load (λ (i : ℕ). i) []
      | false ↦ worst_of-kind c again Load (λ (i : ℕ). i) (shared_line l (op % shared_lines l) ∷ [])
    ]

worst_of-zeroed : (c : CostTable) (again : ℕ) (l : Layout) (zeroed : Option ℕ)
    → worst_of c again (zeroed_touches l zeroed) ≡ zeroed_count l zeroed * worst_access c again
unfolding zeroed_touches
worst_of-zeroed c again l None = worst_of-kind c again Store (λ (i : ℕ). i) []
worst_of-zeroed c again l (Some frame) = worst_of-range c again Store (λ i. line_of l frame i) (lines_in_frame l)

worst_of-entries : (c : CostTable) (again : ℕ) (l : Layout) (entries : List ℕ)
    → worst_of c again (entry_touches l entries) ≡ length entries * worst_access c again
unfolding entry_touches
worst_of-entries c again l entries = worst_of-kind c again Store (λ at. at / l.line) entries

pub worst_of-prefetch : (c : CostTable) (again : ℕ) (l : Layout)
    → worst_of c again (prefetch_touches l) ≡ shared_lines l * worst_access c again
unfolding prefetch_touches
worst_of-prefetch c again l = worst_of-range c again Load (shared_line l) (shared_lines l)

-- ---- the whole

pub worst_of-touches : (c : CostTable) (again : ℕ) (l : Layout) (w : WorkDone)
    → worst_of c again (touches l w)
    ≡ 4 * worst_fetch c again
    + (2 + data_count w.op + shared_count w.op + lines_written l w) * worst_access c again
unfolding touches
worst_of-touches c again l w =
    let parts : worst_of c again (text_touches l w.op
    ++ (stack_touches l ++ (data_touches l w.op ++ (shared_touches l w.op ++ written_touches l w))))
    ≡ 4 * worst_fetch c again + (2 * worst_access c again + (data_count w.op * worst_access c again
    + (shared_count w.op * worst_access c again
    + (zeroed_count l w.zeroed * worst_access c again + length w.entries * worst_access c again)))) =
    rw (
      worst_of-append c again (text_touches l w.op)
          (stack_touches l ++ (data_touches l w.op ++ (shared_touches l w.op ++ written_touches l w))),
      worst_of-append c again (stack_touches l) (data_touches l w.op ++ (shared_touches l w.op ++ written_touches l w)),
      worst_of-append c again (data_touches l w.op) (shared_touches l w.op ++ written_touches l w),
      worst_of-append c again (shared_touches l w.op) (written_touches l w),
      worst_of-append c again (zeroed_touches l w.zeroed) (entry_touches l w.entries),
      worst_of-text c again l w.op,
      worst_of-stack c again l,
      worst_of-data c again l w.op,
      worst_of-shared c again l w.op,
      worst_of-zeroed c again l w.zeroed,
      worst_of-entries c again l w.entries,
    ) refl in
    omega (arith, parts)
