use Rattle.std.proofs.Common.{ap, sym, subst, arith}
use Rattle.set_cache.specs.Calls.{IsNew}
use Rattle.set_cache.specs.Packed.{KeptSets}
use Rattle.set_cache.specs.Last.{IsCache}
use Rattle.set_cache.specs.declared.cache.LastTouch.{LastTouch}
use Rattle.set_cache.proofs.Sets.{fresh_cache, fresh_is_new}
use Rattle.set_cache.proofs.Last.{new_lawful}
use Rattle.set_cache.proofs.cache.SetCache.new_at.Goals as goal

pub returns-clause-made : goal.returns-clause-made
returns-clause-made g c =
    let a = c.args in
    subst
    (λ (sets : KeptSets). IsNew g.P.Policy.takes g.P.Policy.stands_for a.policy a.sets a.ways
    (fresh_cache a.policy sets))
    (sym c.in_ok-packed.ensures.made)
    (fresh_is_new g.P.Policy.takes g.P.Policy.stands_for a.policy a.sets a.ways a.epoch c.fresh-fresh.result
    c.requires.geometry c.fresh-fresh.ensures.fresh)

pub invariant_of-result : goal.invariant_of-result
invariant_of-result g c =
    let a = c.args in
    let none : LastTouch = record { number = 4294967296; place = 0 } in
    subst
    (λ (sets : KeptSets). IsCache g.P.Policy.takes g.P.Policy.rule g.P.Policy.stands_for (fresh_cache a.policy sets) sets.fresh none)
    (sym c.in_ok-packed.ensures.made)
    (new_lawful g.P.Policy.takes g.P.Policy.rule g.P.Policy.stands_for a.policy a.sets a.ways a.epoch c.fresh-fresh.result none
    c.requires.geometry c.fresh-fresh.ensures.fresh (omega arith) (omega arith))

pub returns-clause-epoch : goal.returns-clause-epoch
returns-clause-epoch g c = ap (λ (sets : KeptSets). sets.epoch) c.in_ok-packed.ensures.made
