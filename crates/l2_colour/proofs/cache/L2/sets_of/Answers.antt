use Rattle.std.proofs.Common.{◌<◌, ◌≤◌, ◌+◌, ◌*◌, ◌/◌, length, rules, arith}
use Rattle.l2_colour.specs.Colours.{colours_of}
use Rattle.l2_colour.proofs.Rows.{sets_are, row_end}
use Rattle.l2_colour.proofs.cache.L2.sets_of.Goals as goal

pub returns-clause-within : goal.returns-clause-within
returns-clause-within g c =
    let a = c.self.inside in
    let sets = length a.cache.table in
    let below : c.from.result < colours_of a.line_size sets = search rules in
    let all = sets_are a.line_size sets c.self.invariant.coloured in
    let end = row_end c.from.result (colours_of a.line_size sets) (4096 / a.line_size) below in
    let within : c.from.result * (4096 / a.line_size) + 4096 / a.line_size ≤ sets = omega (arith, all, end) in
    rw (← c.self.view_is) within
