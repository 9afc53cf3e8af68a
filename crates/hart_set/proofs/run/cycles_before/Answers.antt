use Rattle.std.proofs.Common.{suc, ◌≡◌, ◌∙◌, ◌+◌, ◌<◌, ◌≤◌, List, ℕ, ap, length, arith}
use Rattle.sched_table.specs.declared.schedule.Entry.{Entry}
use Rattle.sched_table.specs.Schedule.{start, entries_alone, harts_in}
use Rattle.sched_table.proofs.HartSchedules.{few_harts}
use Rattle.image_check.specs.Image.{image_from}
use Rattle.world_view.specs.Harts.{start_on}
use Rattle.hart_set.proofs.Turning.{one_each, own_entries}
use Rattle.hart_orders.specs.Order.{cycles_before}
use Rattle.hart_set.proofs.run.cycles_before.Goals as goal

pub loop-schedule-init : goal.loop-schedule-init
unfolding cycles_before
loop-schedule-init c = record { cycles = omega arith; few = omega arith }

-- there are four at most
few : (c : goal.After-start-cycles) → length c.public.result.now.harts.items ≤ 4
few c =
    let i = image_from c.args.image.now in
    let most = few_harts i.all.schedule c.runnable.ensures.runnable.harts.few in
    let all = one_each c.public.result.now i.all c.public.ensures.value in
    omega (arith, most, all)

pub overflow_add-cycles : goal.overflow_add-cycles
overflow_add-cycles c =
    let most = few c in
    omega (arith, most, c.loop-schedule.invariant.few, c.start-cycles.ensures.soon, c.requires.few)

pub loop-schedule-preserved : goal.loop-schedule-preserved
unfolding cycles_before
loop-schedule-preserved c =
    let i = image_from c.args.image.now in
    let h = c.loop-schedule.schedule-index in
    let all = one_each c.public.result.now i.all c.public.ensures.value in
    let below : h < harts_in i.all.schedule = omega (arith, all) in
    let own =
    own_entries c.public.result.now i.all c.public.ensures.value h c.schedule-item.result below
    (rw c.deref-schedule-items.ensures.value at c.schedule-item.is) in
    let begins = c.start-cycles.ensures.value ∙ ap (λ (placed : List (ℕ × Entry)). start (entries_alone placed) c.args.slot) own in
    let one : h + 1 ≡ suc h = omega arith in
    let more : cycles_before i c.args.slot (h + 1)
    ≡ cycles_before i c.args.slot h + start_on i h c.args.slot =
    ap (λ (k : ℕ). cycles_before i c.args.slot k) one in
    record {
      cycles = omega (arith, begins, more, c.loop-schedule.invariant.cycles);
      few = omega (arith, c.loop-schedule.invariant.few, c.start-cycles.ensures.soon, c.requires.few);
    }

pub returns : goal.returns
returns c =
    let i = image_from c.args.image.now in
    let all = one_each c.public.result.now i.all c.public.ensures.value in
    let over : c.loop-schedule.schedule-index ≡ harts_in i.all.schedule = omega (arith, all) in
    record { value = c.loop-schedule.invariant.cycles ∙ ap (λ (k : ℕ). cycles_before i c.args.slot k) over }
