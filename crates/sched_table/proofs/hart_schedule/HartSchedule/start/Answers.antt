use Rattle.std.proofs.Common.{◌∙◌, List, ap}
use Rattle.sched_table.specs.declared.schedule.Entry.{Entry}
use Rattle.sched_table.specs.Schedule.{start}
use Rattle.sched_table.proofs.HartSchedules.{alone_is}
use Rattle.sched_table.proofs.hart_schedule.HartSchedule.start.Goals as goal

pub returns-clause-value : goal.returns-clause-value
returns-clause-value c = c.start.ensures.value
    ∙ ap (λ (es : List Entry). start es c.args.k) (alone_is c.self.inside.places.items c.self.inside.schedule
    c.args.self.now c.self.invariant c.self.view_is)
