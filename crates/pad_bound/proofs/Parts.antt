-- What the parts of the bound are the worst of.
use Rattle.std.proofs.Common.{◌≡◌, ◌∙◌, ◌<◌, ◌≤◌, ◌+◌, ◌*◌, ℕ, List, length, Bool, true, false, ap, refl, arith, lit≤}
use Rattle.std.specs.Prelude.{max, if◌then◌else◌}
use Rattle.std.proofs.lemmas.Nat.{mul-le}
use Rattle.std.proofs.Math.Nat.{max-eq_left, max-eq_right}
use Rattle.cycle_cost.specs.Costs.{CostTable}
use Rattle.kernel_clone.specs.Footprints.{Layout, WorkDone, touches, data_count, is_of_switch, leave_op, enter_op, shared_lines}
use Rattle.kernel_clone.specs.Laws.{shared_count, zeroed_count, IsPlain}
use Rattle.kernel_clone.specs.Permissions.{every_call}
use Rattle.pad_bound.specs.Bound.{MachineShape, IsShape, worst_fetch, worst_access, lines_in_frame, lines_of_shared, most_entries, most_written, most_dirty, worst_instruction, worst_operation, worst_leave, worst_enter, worst_prefetch, worst_flush, bound_of, with_calls}
use Rattle.pad_bound.specs.Worst.{worst_of, lines_written, IsCloneOf, IsCallWork, IsPermitted, AreNoDearer, IsNoSmaller, AreWithin, alloc_work, revoke_work, prefetch_touches}
use Rattle.pad_bound.proofs.Costs.{worst_of-touches, worst_of-prefetch}
use Rattle.pad_bound.proofs.Written.{work_within, every_written, more_written}

-- ---- operations

pub few_written : (calls : ℕ) (l : Layout) (w : WorkDone) → IsCallWork w → IsPermitted calls w
    → lines_written l w ≤ most_written calls l.line
few_written calls l w is = work_within calls l w.op w.zeroed (length w.entries) is.zeroes is.few

-- a call that writes so many lines
call_costs : (c : CostTable) (again : ℕ) (l : Layout) (w : WorkDone) → is_of_switch w.op ≡ false
    → worst_of c again (touches l w) ≡ 4 * worst_fetch c again + (5 + lines_written l w) * worst_access c again
call_costs c again l w call =
    let whole = worst_of-touches c again l w in
    let stored : data_count w.op ≡ 2 = ap (λ (b : Bool). if b then 1 else 2) call in
    let loaded : shared_count w.op ≡ 1 = ap (λ (b : Bool). if b then 0 else 1) call in
    let count : 2 + data_count w.op + shared_count w.op + lines_written l w ≡ 5 + lines_written l w = omega (arith, stored, loaded) in
    whole ∙ ap (λ (n : ℕ). 4 * worst_fetch c again + n * worst_access c again) count

pub operation_covers : (s : MachineShape) (l : Layout) (w : WorkDone) → is_of_switch w.op ≡ false
    → lines_written l w ≤ s.written
    → s.costs.trap + worst_of s.costs s.again (touches l w) ≤ worst_operation s
unfolding worst_operation
operation_covers s l w call few =
    let costs = call_costs s.costs s.again l w call in
    let access : ℕ = worst_access s.costs s.again in
    let same : access ≤ access = omega arith in
    let written : lines_written l w * access ≤ s.written * access = mul-le (lines_written l w) access s.written access few same in
    omega (arith, costs, written)

-- where the work writes as many as there can be
pub operation_reached : (s : MachineShape) (l : Layout) (w : WorkDone) → is_of_switch w.op ≡ false
    → lines_written l w ≡ s.written
    → s.costs.trap + worst_of s.costs s.again (touches l w) ≡ worst_operation s
unfolding worst_operation
operation_reached s l w call most =
    let costs = call_costs s.costs s.again l w call in
    let written : lines_written l w * worst_access s.costs s.again
    ≡ s.written * worst_access s.costs s.again =
    ap (λ (n : ℕ). n * worst_access s.costs s.again) most in
    omega (arith, costs, written)

pub alloc_is_call : (frame : ℕ) → IsCallWork (alloc_work frame)
alloc_is_call frame = record { call = refl; zeroes = λ other is. refl; few = lit≤ tt }

pub revoke_is_call : (entries : List ℕ) → length entries ≡ most_entries → IsCallWork (revoke_work entries)
revoke_is_call entries most = record { call = refl; zeroes = λ frame is. absurd (cc is); few = omega (arith, most) }

pub alloc_writes : (l : Layout) (frame : ℕ) → most_entries ≤ lines_in_frame l.line
    → lines_written l (alloc_work frame) ≡ most_written every_call l.line
alloc_writes l frame many =
    let every = every_written l.line in
    let lines : max (lines_in_frame l.line) most_entries ≡ lines_in_frame l.line = max-eq_left many in
    omega (arith, every, lines)

pub revoke_writes : (l : Layout) (entries : List ℕ) → lines_in_frame l.line ≤ most_entries
    → length entries ≡ most_entries
    → lines_written l (revoke_work entries) ≡ most_written every_call l.line
revoke_writes l entries few most =
    let every = every_written l.line in
    let lines : max (lines_in_frame l.line) most_entries ≡ most_entries = max-eq_right few in
    omega (arith, most, every, lines)

-- a switch, which writes nothing but its clone's own lines
switch_costs : (c : CostTable) (again : ℕ) (l : Layout) (w : WorkDone) → IsPlain w → is_of_switch w.op ≡ true
    → worst_of c again (touches l w) ≡ 4 * worst_fetch c again + 3 * worst_access c again
switch_costs c again l w plain switch =
    let whole = worst_of-touches c again l w in
    let stored : data_count w.op ≡ 1 = ap (λ (b : Bool). if b then 1 else 2) switch in
    let loaded : shared_count w.op ≡ 0 = ap (λ (b : Bool). if b then 0 else 1) switch in
    let zeroed : zeroed_count l w.zeroed ≡ 0 = ap (zeroed_count l) plain.zeroed in
    let written : length w.entries ≡ 0 = ap length plain.entries in
    let count : 2 + data_count w.op + shared_count w.op + lines_written l w ≡ 3 = omega (arith, stored, loaded, zeroed, written) in
    whole ∙ ap (λ (n : ℕ). 4 * worst_fetch c again + n * worst_access c again) count

pub leave_costs : (s : MachineShape) (l : Layout) (w : WorkDone) → IsPlain w → w.op ≡ leave_op
    → s.costs.trap + worst_of s.costs s.again (touches l w) ≡ worst_leave s
unfolding worst_leave
leave_costs s l w plain leave =
    let costs = switch_costs s.costs s.again l w plain (rw leave refl) in
    omega (arith, costs)

pub enter_costs : (s : MachineShape) (l : Layout) (w : WorkDone) → IsPlain w → w.op ≡ enter_op
    → worst_of s.costs s.again (touches l w) ≡ worst_enter s
unfolding worst_enter
enter_costs s l w plain enter = switch_costs s.costs s.again l w plain (rw enter refl)

-- ---- the switch's own parts

pub prefetch_costs : (s : MachineShape) (l : Layout) → IsCloneOf s l
    → worst_of s.costs 0 (prefetch_touches l) ≡ worst_prefetch s
unfolding worst_prefetch
prefetch_costs s l of =
    let lines : shared_lines l ≡ lines_of_shared s = rw (of.line, of.shared) refl in
    worst_of-prefetch s.costs 0 l ∙ ap (λ (n : ℕ). n * worst_access s.costs 0) lines

pub flush_covers : (s : MachineShape) (dirty : ℕ) → dirty ≤ most_dirty s
    → s.costs.flush + s.costs.wb * dirty ≤ worst_flush s
unfolding worst_flush
flush_covers s dirty few =
    let same : s.costs.wb ≤ s.costs.wb = omega arith in
    let written : s.costs.wb * dirty ≤ s.costs.wb * most_dirty s = mul-le s.costs.wb dirty s.costs.wb (most_dirty s) same few in
    omega (arith, written)

-- ---- the sum

pub bound_covers : (s : MachineShape) (slot_end start step leave prefetch flush enter : ℕ)
    → start < slot_end → step ≤ worst_instruction s + worst_operation s
    → leave ≤ worst_leave s → prefetch ≤ worst_prefetch s → flush ≤ worst_flush s → enter ≤ worst_enter s
    → start + step + leave + prefetch + flush + enter ≤ slot_end + bound_of s
unfolding bound_of
bound_covers s slot_end start step leave prefetch flush enter early a b c d e = omega (arith, early, a, b, c, d, e)

some_instruction : (s : MachineShape) → IsShape s → 1 ≤ worst_instruction s
unfolding worst_instruction
some_instruction s is = let some = is.costs.base.some in omega (arith, some)

pub bound_reached : (s : MachineShape) (start : ℕ) → IsShape s
    → start + worst_instruction s + worst_operation s + worst_leave s + worst_prefetch s + worst_flush s + worst_enter s
    ≡ start + 1 + bound_of s
unfolding bound_of
bound_reached s start is = let some = some_instruction s is in omega (arith, some)

-- ---- machines that grow

no_dearer_access : (c d : CostTable) (a b : ℕ) → AreNoDearer c d → a ≤ b → worst_access c a ≤ worst_access d b
no_dearer_access c d a b le again =
    let l1 = le.l1 in
    let l2 = le.l2 in
    let mem = le.mem in
    let wb = le.wb in
    omega (arith, l1, l2, mem, wb, again)

pub no_smaller : (s t : MachineShape) → IsNoSmaller s t → bound_of s ≤ bound_of t
unfolding bound_of worst_instruction worst_operation worst_leave worst_enter worst_prefetch worst_flush
no_smaller s t le =
    let access = no_dearer_access s.costs t.costs s.again t.again le.costs le.again in
    let plain = no_dearer_access s.costs t.costs 0 0 le.costs (omega arith) in
    let loaded : lines_of_shared s ≤ lines_of_shared t = rw (le.line, le.shared) (omega arith) in
    let dirty : most_dirty s ≤ most_dirty t = rw (le.sets, le.ways) (omega arith) in
    let a : s.written * worst_access s.costs s.again ≤ t.written * worst_access t.costs t.again
    = mul-le s.written (worst_access s.costs s.again) t.written (worst_access t.costs t.again) le.written access in
    let b : lines_of_shared s * worst_access s.costs 0 ≤ lines_of_shared t * worst_access t.costs 0
    = mul-le (lines_of_shared s) (worst_access s.costs 0) (lines_of_shared t) (worst_access t.costs 0) loaded plain in
    let wb = le.costs.wb in
    let c : s.costs.wb * most_dirty s ≤ t.costs.wb * most_dirty t
    = mul-le s.costs.wb (most_dirty s) t.costs.wb (most_dirty t) wb dirty in
    let base = le.costs.base in
    let l1 = le.costs.l1 in
    let l2 = le.costs.l2 in
    let mem = le.costs.mem in
    let tlb = le.costs.tlb in
    let mispredict = le.costs.mispredict in
    let trap = le.costs.trap in
    let flush = le.costs.flush in
    let again = le.again in
    let product = le.product in
    omega (arith, a, b, c, base, l1, l2, mem, wb, tlb, mispredict, trap, flush, again, product)

same_costs : (c : CostTable) → AreNoDearer c c
same_costs c = record {
  base = omega arith;
  l1 = omega arith;
  l2 = omega arith;
  mem = omega arith;
  wb = omega arith;
  tlb = omega arith;
  mispredict = omega arith;
  trap = omega arith;
  flush = omega arith;
}

-- ---- a domain that may make more calls

pub more_calls : (s : MachineShape) (calls others : ℕ) → AreWithin calls others
    → bound_of (with_calls s calls) ≤ bound_of (with_calls s others)
more_calls s calls others within =
    no_smaller (with_calls s calls) (with_calls s others) (record {
      costs = same_costs s.costs;
      line = refl;
      shared = refl;
      sets = refl;
      ways = refl;
      written = more_written calls others s.line within;
      again = omega arith;
      product = omega arith;
    })
