use Rattle.std.proofs.Common.{ℕ, length, sym, subst, arith}
use Rattle.set_cache.specs.Contents.{Contents}
use Rattle.set_cache.specs.Calls.{IsFlush}
use Rattle.set_cache.specs.Last.{IsCache}
use Rattle.set_cache.specs.declared.cache.LastTouch.{LastTouch}
use Rattle.set_cache.specs.Packed.{KeptSets, epoch_after}
use Rattle.set_cache.proofs.Sets.{fresh_cache, flushed}
use Rattle.set_cache.proofs.Last.{new_lawful}
use Rattle.set_cache.proofs.cache.SetCache.flush_counted.Goals as goal

pub returns-clause-flush : goal.returns-clause-flush
returns-clause-flush g c =
    let s = c.self.inside in
    let cache : Contents _ =
    record { policy = s.policy; ways = s.packed.ways; epoch = s.packed.epoch; table = s.packed.table } in
    let flush =
    flushed g.P.Policy.takes g.P.Policy.rule g.P.Policy.stands_for cache
    (epoch_after s.packed.epoch) s.packed.fresh
    c.self.invariant.sound c.self.invariant.fresh_stands in
    subst
    (λ (t : ℕ × Contents _ × KeptSets).
    IsFlush g.P.Policy.takes g.P.Policy.rule g.P.Policy.stands_for t.0 t.1 (fresh_cache s.policy t.2))
    (λ j. (sym c.dirty-dirty.ensures.value j, c.self.view_is j, sym c.empty.ensures.emptied j)) flush

pub invariant_of-self : goal.invariant_of-self
invariant_of-self g c =
    let s = c.self.inside in
    let none : LastTouch = record { number = 4294967296; place = 0 } in
    let sound = c.self.invariant.sound in
    subst
    (λ (sets : KeptSets). IsCache g.P.Policy.takes g.P.Policy.rule g.P.Policy.stands_for (fresh_cache s.policy sets) sets.fresh none)
    (sym c.empty.ensures.emptied)
    (new_lawful g.P.Policy.takes g.P.Policy.rule g.P.Policy.stands_for s.policy (length s.packed.table)
    s.packed.ways (epoch_after s.packed.epoch) s.packed.fresh none
    (record { taken = sound.taken; power = sound.power; small = sound.small }) c.self.invariant.fresh_stands
    c.self.invariant.few (omega arith))
