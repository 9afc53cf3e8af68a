use Rattle.std.proofs.Common.{◌<◌, ◌+◌, ◌*◌, ◌^◌, length, arith}
use Rattle.set_cache.proofs.cache.SetCache.flush.Goals as goal

pub flush_counted-requires : goal.flush_counted-requires
flush_counted-requires g c =
    let s = c.self.inside in
    let few = c.self.invariant.few in
    let small = c.self.invariant.sound.small in
    let room : 0 + (1 + length s.packed.table * (s.packed.ways + 1)) < 2 ^ 64 = omega (arith, few, small) in
    record { room = rw (← c.self.view_is) room }
