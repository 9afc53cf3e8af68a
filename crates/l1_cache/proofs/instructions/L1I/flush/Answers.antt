use Rattle.std.proofs.Common.{◌≡◌, ◌∙◌, ℕ, subst}
use Rattle.set_cache.specs.Calls.{IsFlush}
use Rattle.set_cache.proofs.Places.{IsClean-none, dirty-clean}
use Rattle.l1_cache.proofs.instructions.L1I.flush.Goals as goal

pub invariant_of-self : goal.invariant_of-self
invariant_of-self g c = IsClean-none c.flush.new.self c.flush.ensures.flush.none

pub returns-clause-flush : goal.returns-clause-flush
returns-clause-flush g c =
    let old = c.self.inside.cache in
    let new = c.flush.new.self in
    let flush = c.flush.ensures.flush in
    let none : c.flush.result ≡ 0 =
    flush.marked
    ∙ dirty-clean g.P.Policy.takes g.P.Policy.stands_for old flush.was_sound c.self.invariant in
    rw (← c.self.view_is) (subst (λ (n : ℕ). IsFlush g.P.Policy.takes g.P.Policy.rule g.P.Policy.stands_for n old new) none flush)
