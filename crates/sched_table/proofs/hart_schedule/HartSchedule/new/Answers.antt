use Rattle.std.proofs.Common.{◌≡◌, ◌∙◌, ap, subst, sym, rules}
use Rattle.sched_table.specs.Schedule.{on_hart, IsSchedule}
use Rattle.sched_table.proofs.HartSchedules.{none_so_far, one_more, none_more, all_so_far, own_is, hart_schedule_sound}
use Rattle.sched_table.proofs.hart_schedule.HartSchedule.new.Goals.{then-entry-hart+in_ok-push+in_ok-push-2, else-entry-hart}
use Rattle.sched_table.proofs.hart_schedule.HartSchedule.new.Goals as goal

pub loop-place-init : goal.loop-place-init
loop-place-init c = none_so_far c.args.entries.now c.args.hart _ _ (search rules) (search rules)

pub loop-place-preserved : goal.loop-place-preserved
loop-place-preserved c =
    let es = c.args.entries.now in
    let l = c.loop-place in
    let next = c.if-entry-hart in
    elim next.branch [
      | then-entry-hart+in_ok-push+in_ok-push-2 w ↦
          let places = ap (λ v. v.items) w.places-is ∙ w.in_ok-push-2.ensures.items in
          let own = ap (λ v. v.items) w.own-is ∙ w.in_ok-push.ensures.items in
          one_more es c.args.hart l.place l.places.items next.places.items l.own.items next.own.items
          l.invariant c.loop-place-test.true w.if-entry-hart.true places own
      | else-entry-hart w ↦
          let places = ap (λ v. v.items) w.places-is in
          let own = ap (λ v. v.items) w.own-is in
          none_more es c.args.hart l.place l.places.items next.places.items l.own.items next.own.items
          l.invariant c.loop-place-test.true w.if-entry-hart.false places own
    ]

pub new-requires : goal.new-requires
new-requires c =
    let es = c.args.entries.now in
    let l = c.loop-place in
    let own : l.own.items ≡ on_hart es c.args.hart = own_is es c.args.hart l.place l.places.items l.own.items l.invariant (search rules) in
    record {
      schedule =
          subst IsSchedule (sym own ∙ sym c.as_slice.ensures.value)
          (hart_schedule_sound es c.args.hart c.requires.schedule c.requires.some);
    }

pub returns : goal.returns
returns c =
    let es = c.args.entries.now in
    let l = c.loop-place in
    let same : c.in_ok-schedule.schedule ≡ l.own.items = c.in_ok-schedule.ensures.entries ∙ c.as_slice.ensures.value in
    let all = all_so_far es c.args.hart l.place l.places.items l.own.items l.invariant (search rules) in
    record { entries = rw same all }
