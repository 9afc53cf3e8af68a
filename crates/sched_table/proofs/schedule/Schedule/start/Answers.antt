use Rattle.std.proofs.Common.{◌≡◌, ◌+◌, ◌*◌, ◌/◌, length, ap, sym, ◌∙◌, rules, arith}
use Rattle.sched_table.specs.Schedule.{start}
use Rattle.sched_table.proofs.Starts.{soon_law}
use Rattle.sched_table.proofs.Sums.{start_read}
use Rattle.sched_table.proofs.schedule.Schedule.start.Goals as goal

read : (c : goal.After-row_known-1)
    → c.round_start.result + c.index.result.now ≡ start c.self.inside.entries.items c.args.k
read c =
    let s = c.self.inside in
    let long : c.len.result ≡ length s.entries.items = search rules in
    let begins = c.round_start.ensures.value ∙ ap (λ es. start es (c.args.k / length es * length es)) (sym c.self.view_is) in
    start_read s.entries.items s.before.items s.round c.len.result c.args.k c.round_start.result
    c.index.result.now c.self.invariant long begins c.index.ensures

pub overflow_add-result : goal.overflow_add-result
overflow_add-result c = omega (arith, read c, soon_law c.self.inside.entries.items c.args.k c.self.invariant.schedule, c.requires.few)

pub returns : goal.returns
returns c = record {
  value = read c ∙ ap (λ es. start es c.args.k) c.self.view_is;
  soon = omega (arith, read c, soon_law c.self.inside.entries.items c.args.k c.self.invariant.schedule);
}
