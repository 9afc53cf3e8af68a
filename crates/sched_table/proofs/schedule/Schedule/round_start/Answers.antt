use Rattle.std.proofs.Common.{◌≡◌, ◌+◌, ◌*◌, ◌/◌, length, ap, ◌∙◌, rules, arith}
use Rattle.sched_table.specs.Schedule.{start}
use Rattle.sched_table.proofs.Starts.{round_soon}
use Rattle.sched_table.proofs.Sums.{round_read}
use Rattle.sched_table.proofs.schedule.Schedule.round_start.Goals as goal

abbrev begins : goal.After-from-2 → Type 0
begins c =
    let es = c.self.inside.entries.items in
    c.from.result + c.from-2.result / c.len-entries.result * c.self.inside.round
    ≡ start es (c.args.k / length es * length es)

read : (c : goal.After-from-2) → begins c
read c =
    let s = c.self.inside in
    let long : c.len-entries.result ≡ length s.entries.items = search rules in
    round_read s.entries.items s.before.items s.round c.len-entries.result c.args.k c.from-2.result
    c.from.result c.index-last.result.now c.self.invariant long c.from-2.ensures c.index-last.ensures
    c.from.ensures

pub overflow_mul-result : goal.overflow_mul-result
overflow_mul-result c = omega (arith, read c, round_soon c.self.inside.entries.items c.args.k c.self.invariant.schedule, c.requires.few)

pub overflow_add-result : goal.overflow_add-result
overflow_add-result c = omega (arith, read c, round_soon c.self.inside.entries.items c.args.k c.self.invariant.schedule, c.requires.few)

pub returns : goal.returns
returns c = record { value = read c ∙ ap (λ es. start es (c.args.k / length es * length es)) c.self.view_is }
