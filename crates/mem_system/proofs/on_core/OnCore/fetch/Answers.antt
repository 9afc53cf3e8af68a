-- A line that isn't held is read at the second level.
use Rattle.mem_system.proofs.Fetches.{fetch_held, fetch_missed}
use Rattle.mem_system.proofs.on_core.OnCore.fetch.Goals as goal

pub returns-then-fetch-clause-makes : goal.returns-then-fetch-clause-makes
returns-then-fetch-clause-makes g c =
    rw (← c.self.view_is) (fetch_held g.P.Policy.takes g.P.Policy.rule g.P.Policy.stands_for c.args.line _ c.fetch.new.self c.args.l2.now
    c.fetch.result c.fetch.ensures.touch c.if-fetch.true)

pub returns-clause-makes : goal.returns-clause-makes
returns-clause-makes g c =
    rw (← c.self.view_is) (fetch_missed g.P.Policy.takes g.P.Policy.rule g.P.Policy.stands_for c.args.line _ c.fetch.new.self c.args.l2.now
    c.fetch.result c.fetch.ensures.touch c.below.new.l2 c.below.result c.if-fetch.false c.below.ensures.same c.below.ensures.steps)
