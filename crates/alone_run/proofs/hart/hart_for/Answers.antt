use Rattle.std.proofs.Common.{◌<◌, ◌≤◌, ◌∙◌, length, sym, arith}
use Rattle.sched_table.proofs.Harts.{hart_there_law}
use Rattle.alone_run.proofs.Finding.{named_here, named_later, named_nowhere}
use Rattle.alone_run.proofs.hart.hart_for.Goals as goal

-- its hart, and that this is one of the harts
pub returns-then-entry-d-clause-value : goal.returns-then-entry-d-clause-value
returns-then-entry-d-clause-value c =
    let es = c.args.schedule.now in
    let below : c.loop-k.k < length es = omega (arith, c.loop-k-test.true, c.loop-k.auto.k-end, c.len-k-end.ensures.value) in
    sym (named_here es c.args.d c.loop-k.k c.entry-entry.result below c.entry-entry.ensures.value c.if-entry-d.true) ∙ c.loop-k.invariant

pub returns-then-entry-d-clause-there : goal.returns-then-entry-d-clause-there
returns-then-entry-d-clause-there c =
    let es = c.args.schedule.now in
    let below : c.loop-k.k < length es = omega (arith, c.loop-k-test.true, c.loop-k.auto.k-end, c.len-k-end.ensures.value) in
    let is =
    sym (named_here es c.args.d c.loop-k.k c.entry-entry.result below c.entry-entry.ensures.value
    c.if-entry-d.true) ∙ c.loop-k.invariant in
    let there = hart_there_law es c.args.d c.len-k-end.ensures.schedule.some in
    omega (arith, is, there)

pub loop-k-preserved : goal.loop-k-preserved
loop-k-preserved c =
    let es = c.args.schedule.now in
    let below : c.loop-k.k < length es = omega (arith, c.loop-k-test.true, c.loop-k.auto.k-end, c.len-k-end.ensures.value) in
    sym (named_later es c.args.d c.loop-k.k c.entry-entry.result below c.entry-entry.ensures.value c.if-entry-d.false) ∙ c.loop-k.invariant

pub returns-clause-value : goal.returns-clause-value
returns-clause-value c =
    let es = c.args.schedule.now in
    let past : length es ≤ c.loop-k.k = omega (arith, c.loop-k-test.false, c.loop-k.auto.k-end, c.len-k-end.ensures.value) in
    sym (named_nowhere es c.args.d c.loop-k.k past) ∙ c.loop-k.invariant

pub returns-clause-there : goal.returns-clause-there
returns-clause-there c =
    let es = c.args.schedule.now in
    let past : length es ≤ c.loop-k.k = omega (arith, c.loop-k-test.false, c.loop-k.auto.k-end, c.len-k-end.ensures.value) in
    let is = sym (named_nowhere es c.args.d c.loop-k.k past) ∙ c.loop-k.invariant in
    let there = hart_there_law es c.args.d c.len-k-end.ensures.schedule.some in
    omega (arith, is, there)
