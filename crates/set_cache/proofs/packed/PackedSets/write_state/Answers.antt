use Rattle.std.proofs.Common.{◌<◌, List, length, ap, arith}
use Rattle.set_cache.specs.Contents.{KeptSet}
use Rattle.set_cache.specs.Packed.{KeptSets}
use Rattle.set_cache.proofs.Vectors.{length_table, table-state, written-state}
use Rattle.set_cache.proofs.packed.PackedSets.write_state.Goals as goal

pub invariant_of-self : goal.invariant_of-self
invariant_of-self c =
    let s = c.self.inside in
    let count = ap (λ (sets : KeptSets). length sets.table) c.self.view_is in
    let table = length_table s.ways s.epoch s.fresh s.entries.items s.states.items in
    let below : c.args.set < length s.states.items = omega (arith, c.requires.below, count, table) in
    written-state s.ways s.epoch s.fresh s.dirty s.entries.items s.states.items c.args.set c.args.state
    c.self.invariant below

pub returns : goal.returns
returns c =
    let s = c.self.inside in
    let count = ap (λ (sets : KeptSets). length sets.table) c.self.view_is in
    let table = length_table s.ways s.epoch s.fresh s.entries.items s.states.items in
    let below : c.args.set < length s.states.items = omega (arith, c.requires.below, count, table) in
    let is = table-state s.ways s.epoch s.fresh s.entries.items s.states.items c.args.set c.args.state below in
    let of : List KeptSet → KeptSets =
    λ sets. record { ways = s.ways; epoch = s.epoch; fresh = s.fresh; table = sets } in
    record { written = rw (← c.self.view_is) (ap of is) }
