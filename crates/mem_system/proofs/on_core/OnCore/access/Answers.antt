-- A line that isn't held is read after what is given up is written back.
use Rattle.mem_system.proofs.Accesses.{access_held, access_missed}
use Rattle.mem_system.proofs.on_core.OnCore.access.Goals as goal

pub returns-clause-makes : goal.returns-clause-makes
returns-clause-makes g c =
    rw (← c.self.view_is) (access_missed g.P.Policy.takes g.P.Policy.rule g.P.Policy.stands_for c.args.line c.args.store
    _ c.touch_data-found.new.l1d c.args.l2.now c.give_up-given_up.new.l2 c.below.new.l2
    c.touch_data-found.result c.give_up-given_up.result c.below.result
    c.touch_data-found.ensures.touch c.if-found.false c.give_up-given_up.ensures.cost
    c.give_up-given_up.ensures.same c.give_up-given_up.ensures.steps c.below.ensures.same c.below.ensures.steps)

pub returns-then-found-clause-makes : goal.returns-then-found-clause-makes
returns-then-found-clause-makes g c =
    rw (← c.self.view_is) (access_held g.P.Policy.takes g.P.Policy.rule g.P.Policy.stands_for c.args.line c.args.store
    _ c.touch_data-found.new.l1d c.args.l2.now c.touch_data-found.result c.touch_data-found.ensures.touch c.if-found.true)
