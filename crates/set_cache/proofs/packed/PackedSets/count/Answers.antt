use Rattle.std.proofs.Common.{length, ap, arith}
use Rattle.set_cache.specs.Packed.{KeptSets}
use Rattle.set_cache.proofs.Vectors.{length_table}
use Rattle.set_cache.proofs.packed.PackedSets.count.Goals as goal

pub returns-clause-value : goal.returns-clause-value
returns-clause-value c =
    let s = c.self.inside in
    let count = ap (λ (sets : KeptSets). length sets.table) c.self.view_is in
    let table = length_table s.ways s.epoch s.fresh s.entries.items s.states.items in
    omega (arith, c.len.ensures, count, table)
