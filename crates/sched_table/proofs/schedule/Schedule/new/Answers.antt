use Rattle.std.proofs.Common.{arith, rules}
use Rattle.sched_table.specs.Laws.{cycles_before}
use Rattle.sched_table.proofs.Sums.{each_more, sum_more, few_more}
use Rattle.sched_table.proofs.schedule.Schedule.new.Goals as goal

pub loop-entry-init : goal.loop-entry-init
unfolding cycles_before
loop-entry-init c = record {
  long = search rules;
  room = search rules;
  each = λ j l. absurd (omega (arith, l));
  sum = omega arith;
  few = omega arith;
}

pub loop-entry-preserved : goal.loop-entry-preserved
loop-entry-preserved c =
    let h = c.loop-entry.invariant in
    record {
      long = search rules;
      room = search rules;
      each =
          rw c.push_reserved.ensures.items (each_more c.args.entries.now c.loop-entry.before.items
          c.loop-entry.entry-index c.loop-entry.round h.long h.sum h.each);
      sum =
          sum_more c.args.entries.now c.loop-entry.entry-index c.loop-entry.round c.from.result
          c.from-in-loop-entry.result c.loop-entry-test.true h.sum c.from.ensures
          c.from-in-loop-entry.ensures;
      few =
          few_more c.args.entries.now c.loop-entry.entry-index c.loop-entry.round c.from.result
          c.from-in-loop-entry.result c.requires.schedule h.few c.from.ensures c.from-in-loop-entry.ensures;
    }
