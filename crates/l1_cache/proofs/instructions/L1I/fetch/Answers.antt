use Rattle.std.proofs.Common.{refl}
use Rattle.set_cache.specs.Lines.{IsClean, mark_in}
use Rattle.set_cache.proofs.Places.{dirty-clean}
use Rattle.set_cache.proofs.Ways.{marks_clean}
use Rattle.l1_cache.proofs.instructions.L1I.fetch.Goals as goal

pub returns-clause-touch : goal.returns-clause-touch
returns-clause-touch g c =
    rw (← c.number.ensures.same) (rw (← c.self.view_is) (record { answer = c.touch.result; told = refl; touch = c.touch.ensures.touch }))

pub returns-clause-clean : goal.returns-clause-clean
returns-clause-clean g c =
    marks_clean c.touch.result c.number.result (mark_in c.self.inside.cache) (mark_in c.touch.new.self)
    c.touch.ensures.touch.marks c.self.invariant

pub invariant_of-self : goal.invariant_of-self
invariant_of-self g c = returns-clause-clean g c

pub returns-clause-none_counted : goal.returns-clause-none_counted
returns-clause-none_counted g c =
    dirty-clean g.P.Policy.takes g.P.Policy.stands_for c.touch.new.self c.touch.ensures.touch.sound (returns-clause-clean g c)
