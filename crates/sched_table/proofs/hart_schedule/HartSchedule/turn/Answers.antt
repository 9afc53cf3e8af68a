-- The turn is that of the hart's entries alone, but for its place.
use Rattle.std.proofs.Common.{◌≡◌, ℕ, ◌∙◌, ◌<◌, List, length, refl, ap, arith}
use Rattle.std.proofs.lemmas.List.{get_or_read_under}
use Rattle.sched_table.specs.declared.schedule.Entry.{Entry}
use Rattle.sched_table.specs.Schedule.{entries_alone, place_in, entry_in, entry_of_slot, switch_entry, start, last_end}
use Rattle.sched_table.proofs.HartSchedules.{alone_is, place_is}
use Rattle.sched_table.proofs.hart_schedule.HartSchedule.turn.Goals as goal

pub returns : goal.returns
returns c =
    let k = c.args.k in
    let places = c.self.inside.places.items in
    let own = c.self.inside.schedule in
    let turn = c.turn-turn.ensures in
    let place = c.turn-turn.result.place in
    let alone : own ≡ entries_alone c.args.self.now = alone_is places own c.args.self.now c.self.invariant c.self.view_is in
    let within : place < length places = omega (arith, turn.within, c.self.invariant) in
    record {
      entry = turn.entry ∙ ap (λ (es : List Entry). entry_of_slot es k) alone;
      start = turn.start ∙ ap (λ (es : List Entry). start es k) alone;
      ended = turn.ended ∙ ap (λ (es : List Entry). entry_in es (switch_entry es k)) alone;
      place = get_or_read_under places place (length places) c.index.result.now 0 c.index.ensures within refl
          ∙ place_is places own c.args.self.now place c.self.invariant c.self.view_is
          ∙ ap (λ (n : ℕ). place_in c.args.self.now n) (turn.place ∙ ap (λ (es : List Entry). switch_entry es k) alone);
      last_end = turn.last_end ∙ ap (λ (es : List Entry). last_end es k) alone;
      length = turn.length;
      soon = turn.soon;
    }
