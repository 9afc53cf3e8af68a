use Rattle.std.proofs.Common.{◌≡◌, ◌∙◌, subst, arith}
use Rattle.set_cache.specs.Contents.{Contents}
use Rattle.set_cache.specs.Lines.{dirty_kept}
use Rattle.set_cache.proofs.Sets.{dirty-stands, dirty_few}
use Rattle.set_cache.proofs.cache.SetCache.dirty.Goals as goal

pub returns-clause-stands : goal.returns-clause-stands
returns-clause-stands g c = λ sets for.
    let is : c.dirty.result ≡ dirty_kept c.args.self.now =
    subst (λ (v : Contents _). c.dirty.result ≡ dirty_kept v) c.self.view_is c.dirty.ensures.value in
    is ∙ dirty-stands g.P.Policy.stands_for g.P.Policy.rule c.args.self.now sets for

pub returns-clause-few : goal.returns-clause-few
returns-clause-few g c =
    let s = c.self.inside in
    let cache : Contents _ =
    record { policy = s.policy; ways = s.packed.ways; epoch = s.packed.epoch; table = s.packed.table } in
    let few = dirty_few g.P.Policy.takes g.P.Policy.stands_for cache c.self.invariant.sound in
    rw (← c.self.view_is) (omega (arith, few, c.dirty.ensures.value))
