-- Every clock of a run is far from the end of its range, by the limits of an image and of a run.
use Rattle.std.specs.Prelude.{if◌then◌else◌}
use Rattle.std.proofs.Common.{ℕ, zero, suc, Bool, true, false, ◌+◌, ◌*◌, ◌/◌, ◌^◌, ◌<◌, ◌≤◌, subst, arith, mul-le-mul_right}
use Rattle.std.proofs.lemmas.Nat.{mul-le}
use Rattle.image_check.proofs.Padded.{few_added}
use Rattle.pad_bound.specs.Bound.{worst_access, lines_of_shared, most_written, most_dirty, worst_instruction, worst_operation, worst_leave, worst_prefetch, worst_flush, worst_enter, bound_of}
use Rattle.pad_bound.proofs.Written.{few_most}
use Rattle.image_check.specs.Own.{Own}
use Rattle.image_check.specs.Pads.{again_of}
use Rattle.cycle_cost.specs.Ranges.{most_access}
use Rattle.hardware_check.specs.Hardware.{Hardware, IsHardware}
use Rattle.image_check.specs.Image.{Image}
use Rattle.sched_table.specs.Schedule.{IsSchedule, entry_of_slot, last_end, outgoing, on_hart, harts_in}
use Rattle.sched_table.proofs.Starts.{soon_law}
use Rattle.sched_table.proofs.HartSchedules.{hart_schedule_sound}
use Rattle.world_view.specs.Machine.{World, caches_of, clock_of, switch_work}
use Rattle.image_check.specs.Laws.{Runnable}
use Rattle.world_view.specs.Relations.{own_shape, largest_step, bound, ended_own, InTime}
use Rattle.world_view.specs.Harts.{Harts, image_on, domain_in, start_on, end_on, progress_of, slots_of}
use Rattle.world_view.specs.Laws.{ClocksFit}
use Rattle.world_view.proofs.time.TimeLaws.{used_in_bound}
use Rattle.world_view.proofs.harts.OnHart.{separated_on}
use Rattle.world_view.proofs.harts.Events.{IsHart}

-- ---- the bound is small

module _ (p : Hardware) (h : IsHardware p) (o : Own) where
  again_small : (back : Bool) → (if back then p.costs.wb else 0) ≤ 1000
  again_small true = h.costs.wb.few
  again_small false = omega arith

  access_small : (again : ℕ) → again ≤ 1000 → worst_access p.costs again ≤ most_access
  access_small again few =
      let l1 = h.costs.l1.few in
      let l2 = h.costs.l2.few in
      let mem = h.costs.mem.few in
      let wb = h.costs.wb.few in
      omega (arith, l1, l2, mem, wb, few)

  times_access : (n most again : ℕ) → n ≤ most → again ≤ 1000
      → n * worst_access p.costs again ≤ most * most_access
  times_access n most again few rare = mul-le n (worst_access p.costs again) most most_access few (access_small again rare)

  written_small : most_written o.calls p.line ≤ 256
  written_small = few_most o.calls p.line h.line.least

  lines_small : lines_of_shared (own_shape p o) ≤ 4096
  lines_small =
      let least = h.line.least in
      let most = h.few_shared in
      let product = mul-le-mul_right (p.shared / p.line) least in
      omega (arith, product, most)

  dirty_small : most_dirty (own_shape p o) ≤ 16384
  dirty_small = mul-le p.l1d.sets p.l1d.ways 1024 16 h.l1d.sets.most h.l1d.few_ways

  pub bound_small : bound p o < 2 ^ 26
  unfolding bound_of worst_instruction worst_operation worst_leave worst_prefetch worst_flush worst_enter
  bound_small =
      let again = again_small p.back in
      let written = times_access (most_written o.calls p.line) 256 (again_of p) written_small again in
      let shared = times_access (lines_of_shared (own_shape p o)) 4096 0 lines_small (omega arith) in
      let flush = mul-le p.costs.wb (most_dirty (own_shape p o)) 1000 16384 h.costs.wb.few dirty_small in
      let base = h.costs.base.few in
      let tlb = h.costs.tlb.few in
      let mispredict = h.costs.mispredict.few in
      let trap = h.costs.trap.few in
      let flushes = h.costs.flush.few in
      let l1 = h.costs.l1.few in
      let l2 = h.costs.l2.few in
      let mem = h.costs.mem.few in
      let wb = h.costs.wb.few in
      let product = few_added p.muldiv h.few_mul h.few_div in
      omega (arith, again, written, shared, flush, base, tlb, mispredict, trap, flushes, l1, l2, mem, wb, product)

  pub step_small : largest_step p o ≤ 2 ^ 26
  unfolding bound_of
  step_small = let small = bound_small in omega (arith, small)

-- ---- the clocks of a hart

module _ (i : Image) (r : Runnable i) (h : ℕ) (is : h < harts_in i.all.schedule) where
  own_schedule : IsSchedule (on_hart i.all.schedule h)
  own_schedule = hart_schedule_sound i.all.schedule h r.schedule (r.harts.each h is)

  start_soon : (k : ℕ) → start_on i h k ≤ 2000000 * k + 1000000
  start_soon k = soon_law (on_hart i.all.schedule h) k own_schedule

  -- a slot is at most a million cycles
  pub end_soon : (k : ℕ) → end_on i h k ≤ 2000000 * k + 2000000
  end_soon k =
      let begins = start_soon k in
      let lasts : (entry_of_slot (on_hart i.all.schedule h) k).length ≤ 1000000 = own_schedule.lengths _ in
      omega (arith, begins, lasts)

  -- the end of the slot before
  last_end_soon : (k : ℕ) → last_end (on_hart i.all.schedule h) k ≤ 2000000 * k + 1000000
  last_end_soon zero = omega arith
  last_end_soon (suc k) = let before = end_soon k in omega (arith, before)

  clock_if : (b : Bool) (k : ℕ) (w : World) → k ≤ 65536 → IsHart i b h k w → clock_of h w < 2 ^ 61
  clock_if true k w few its = let soon = its.soon in let ends = end_soon k in omega (arith, few, soon, ends)
  clock_if false k w few its =
      let soon = its.soon in
      let ended = last_end_soon k in
      let largest = step_small i.all.hardware r.hardware (ended_own (image_on i h) k) in
      omega (arith, few, soon, ended, largest)

  pub clock_soon : (s : Harts) → IsHart i (progress_of h s).inside h (slots_of h s) s.world → slots_of h s ≤ 65536
      → clock_of h s.world < 2 ^ 61
  clock_soon s its few = clock_if (progress_of h s).inside (slots_of h s) s.world few its

  -- the work of a switch is done by then
  worked : (k : ℕ) (w : World) → k ≤ 65536 → InTime (image_on i h) h k w
      → clock_of h w + (switch_work (image_on i h) (outgoing (on_hart i.all.schedule h) k) (domain_in i h k) (caches_of h w)).cost < 2 ^ 62
  worked k w few time =
      let used = used_in_bound (image_on i h) (separated_on i r h is) h k w time in
      let last = last_end_soon k in
      let most = bound_small i.all.hardware r.hardware (ended_own (image_on i h) k) in
      omega (arith, used, last, most, few)

  pub clocks_fit : (s : Harts) → IsHart i (progress_of h s).inside h (slots_of h s) s.world → slots_of h s ≤ 65536
      → ClocksFit i h s
  clocks_fit s its few =
      let k = slots_of h s in
      let now = clock_soon s its few in
      let begins = start_soon k in
      let ends = end_soon k in
      record {
        now = omega (arith, now);
        worked = λ out. worked k s.world few (subst (λ (b : Bool). IsHart i b h k s.world) out its);
        begins = omega (arith, begins, few);
        ends = omega (arith, ends, few);
      }
