use Rattle.std.proofs.Common.{◌≡◌, ◌*◌, length, subst, arith}
use Rattle.set_cache.specs.Contents.{Contents}
use Rattle.set_cache.specs.Lines.{places_kept}
use Rattle.set_cache.proofs.Marks.{length-places_kept}
use Rattle.set_cache.proofs.cache.SetCache.places.Goals as goal

pub returns-clause-value : goal.returns-clause-value
returns-clause-value g c =
    let s = c.self.inside in
    let all = length-places_kept s.packed.ways s.packed.table c.self.invariant.sound.full in
    let product : c.count.result * c.ways.result ≡ length s.packed.table * s.packed.ways =
    rw (c.count.ensures.value, c.ways.ensures.value) (omega arith) in
    subst (λ (v : Contents _). c.count.result * c.ways.result ≡ length (places_kept v.table)) c.self.view_is
    (omega (arith, product, all))
