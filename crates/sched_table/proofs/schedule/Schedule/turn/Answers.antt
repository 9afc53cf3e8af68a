-- The pad before a start is the ended entry's.
use Rattle.std.proofs.Common.{◌≡◌, ◌∙◌, ◌<◌, List, length, refl, ap, arith}
use Rattle.std.proofs.lemmas.List.{get_or_read_under}
use Rattle.sched_table.specs.declared.schedule.Entry.{Entry}
use Rattle.sched_table.specs.Schedule.{no_entry, entry_in, switch_entry, pad_of}
use Rattle.sched_table.proofs.Starts.{pad_law}
use Rattle.sched_table.proofs.schedule.Schedule.turn.Goals as goal

ended_is : (c : goal.After-from)
    → c.index-ended.result.now ≡ entry_in c.args.self.now (switch_entry c.args.self.now c.args.k)
ended_is c =
    let items = c.self.inside.entries.items in
    let place = c.switch_entry-place in
    let within : place.result < length items = rw c.self.view_is place.ensures.within in
    get_or_read_under items place.result (length items) c.index-ended.result.now no_entry c.index-ended.ensures within refl
    ∙ ap (λ (es : List Entry). entry_in es place.result) c.self.view_is
    ∙ ap (entry_in c.args.self.now) place.ensures.value

pad_is : (c : goal.After-from) → c.from.result ≡ pad_of c.args.self.now c.args.k
pad_is c = c.from.ensures ∙ ap (λ (e : Entry). e.pad) (ended_is c)

pub overflow_sub-result : goal.overflow_sub-result
overflow_sub-result c = omega (arith, pad_law c.args.self.now c.args.k, pad_is c, c.start-start.ensures.value)

pub returns-clause-last_end : goal.returns-clause-last_end
returns-clause-last_end c = omega (arith, pad_law c.args.self.now c.args.k, pad_is c, c.start-start.ensures.value)
