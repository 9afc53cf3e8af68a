use Rattle.std.proofs.Common.{rules, arith}
use Rattle.std.proofs.lemmas.Bool.Decides.{nat_tests}
use Rattle.sched_table.proofs.HartSchedules.{harts_more, harts_all}
use Rattle.sched_table.proofs.hart_schedule.harts_in.Goals as goal

pub loop-entry-preserved : goal.loop-entry-preserved
loop-entry-preserved c =
    let here =
    harts_more c.args.entries.now c.loop-entry.harts c.from.result c.loop-entry.entry-index
    c.loop-entry-test.true c.from.ensures c.loop-entry.invariant in
    grind (arith, nat_tests, here, c.max-harts.ensures)

pub returns : goal.returns
returns c = record {
  value =
      harts_all c.args.entries.now c.loop-entry.harts c.loop-entry.entry-index (search rules)
      c.loop-entry.invariant;
}
