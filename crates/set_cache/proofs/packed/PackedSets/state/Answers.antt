use Rattle.std.proofs.Common.{◌≡◌, ◌∙◌, ◌<◌, length, get_or, ap, sym, arith}
use Rattle.std.proofs.lemmas.List.{get_or_default}
use Rattle.set_cache.specs.declared.packed.WrittenState.{WrittenState}
use Rattle.set_cache.specs.Packed.{KeptSets, state_in}
use Rattle.set_cache.proofs.Vectors.{length_table, state_at, state_counts, state_is_old}
use Rattle.set_cache.proofs.packed.PackedSets.state.Goals as goal

pub returns-then-written-self : goal.returns-then-written-self
returns-then-written-self c =
    let s = c.self.inside in
    let unwritten : WrittenState = record { state = 0; epoch = 0 } in
    let count = ap (λ (sets : KeptSets). length sets.table) c.self.view_is in
    let table = length_table s.ways s.epoch s.fresh s.entries.items s.states.items in
    let below : c.args.set < length s.states.items = omega (arith, c.requires.below, count, table) in
    let read : c.index-written.result.now ≡ get_or s.states.items c.args.set unwritten =
    c.index-written.ensures ∙ get_or_default s.states.items c.args.set _ unwritten below in
    let state = state_at s.ways s.epoch s.fresh s.entries.items s.states.items c.args.set below in
    record {
      value = rw (← c.self.view_is)
          (sym (state_counts s.epoch s.fresh c.index-written.result.now c.if-written-self.true)
          ∙ ap (state_in s.epoch s.fresh) read ∙ sym state);
    }

pub returns-else-written-self : goal.returns-else-written-self
returns-else-written-self c =
    let s = c.self.inside in
    let unwritten : WrittenState = record { state = 0; epoch = 0 } in
    let count = ap (λ (sets : KeptSets). length sets.table) c.self.view_is in
    let table = length_table s.ways s.epoch s.fresh s.entries.items s.states.items in
    let below : c.args.set < length s.states.items = omega (arith, c.requires.below, count, table) in
    let read : c.index-written.result.now ≡ get_or s.states.items c.args.set unwritten =
    c.index-written.ensures ∙ get_or_default s.states.items c.args.set _ unwritten below in
    let state = state_at s.ways s.epoch s.fresh s.entries.items s.states.items c.args.set below in
    record {
      value = rw (← c.self.view_is)
          (sym (state_is_old s.epoch s.fresh c.index-written.result.now c.if-written-self.false)
          ∙ ap (state_in s.epoch s.fresh) read ∙ sym state);
    }
