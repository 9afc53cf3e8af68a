use Rattle.std.proofs.Common.{◌≡◌, ℕ, ◌∙◌, List, ◌∷◌, [], ◌++◌, map, ap, ap₂, sym, arith}
use Rattle.std.specs.List.{range_with_len}
use Rattle.std.proofs.lemmas.List.FromFn.{map-range_with_len_more}
use Rattle.sched_table.specs.declared.schedule.Entry.{Entry}
use Rattle.sched_table.specs.Schedule.{entries_on, harts_in, hart_schedules}
use Rattle.sched_table.proofs.HartSchedules.{few_harts}
use Rattle.sched_table.proofs.hart_schedule.hart_schedules.Goals as goal

pub overflow_cast-hart : goal.overflow_cast-hart
overflow_cast-hart c =
    omega (
      arith,
      few_harts c.args.entries.now c.requires.harts.few,
      c.loop-hart-test.true,
      c.harts_in-hart-end.ensures.value,
    )

pub loop-hart-preserved : goal.loop-hart-preserved
loop-hart-preserved c =
    let es = c.args.entries.now in
    let h = c.loop-hart.hart in
    let pushed =
    ap₂ (λ (schedules : List (List (ℕ × Entry))) (new : List (ℕ × Entry)). schedules ++ new ∷ [])
    c.loop-hart.invariant c.in_ok-new.ensures.entries in
    c.in_ok-push.ensures.items ∙ pushed ∙ sym (map-range_with_len_more (entries_on es) 0 h h (omega arith))

pub returns : goal.returns
unfolding hart_schedules
returns c =
    let es = c.args.entries.now in
    let all : c.loop-hart.hart ≡ harts_in es =
    omega (arith, c.loop-hart-test.false, c.loop-hart.auto.hart-end, c.harts_in-hart-end.ensures.value) in
    record { each = c.loop-hart.invariant ∙ ap (λ (n : ℕ). map (entries_on es) (range_with_len 0 n)) all }
