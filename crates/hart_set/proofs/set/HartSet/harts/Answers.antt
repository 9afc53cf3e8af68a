use Rattle.std.proofs.Common.{ap, arith}
use Rattle.image_record.specs.Record.{Raw}
use Rattle.sched_table.specs.Schedule.{harts_in}
use Rattle.sched_table.proofs.HartSchedules.{few_harts}
use Rattle.image_check.specs.Image.{image_from}
use Rattle.hart_set.specs.declared.set.State.{State}
use Rattle.hart_set.specs.Models.{image_of}
use Rattle.hart_set.proofs.set.HartSet.harts.Goals as goal

-- there are four at most
pub overflow_cast-result : goal.overflow_cast-result
overflow_cast-result c =
    let is = c.self.invariant in
    let few = few_harts (image_from c.self.inside.image.now).all.schedule is.accepted.harts.few in
    omega (arith, few, c.len.ensures, is.stands.all_harts)

pub returns-clause-few : goal.returns-clause-few
returns-clause-few c =
    let is = c.self.invariant in
    let few = few_harts (image_from c.self.inside.image.now).all.schedule is.accepted.harts.few in
    omega (arith, few, c.len.ensures, is.stands.all_harts)

pub returns-clause-value : goal.returns-clause-value
returns-clause-value c =
    let same = ap (λ (v : Raw × State). harts_in (image_of v).all.schedule) c.self.view_is in
    omega (arith, same, c.len.ensures, c.self.invariant.stands.all_harts)
