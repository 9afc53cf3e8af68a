use Rattle.std.proofs.Common.{◌∙◌, subst}
use Rattle.sched_table.specs.Schedule.{IsSchedule}
use Rattle.sched_table.proofs.HartSchedules.{alone_is, long_is}
use Rattle.sched_table.proofs.hart_schedule.HartSchedule.len.Goals as goal

pub returns-clause-value : goal.returns-clause-value
returns-clause-value c =
    c.len.ensures.value
    ∙ long_is c.self.inside.places.items c.self.inside.schedule c.args.self.now c.self.invariant
    c.self.view_is

pub returns-clause-schedule : goal.returns-clause-schedule
returns-clause-schedule c =
    subst IsSchedule
    (alone_is c.self.inside.places.items c.self.inside.schedule c.args.self.now c.self.invariant
    c.self.view_is) c.len.ensures.schedule
