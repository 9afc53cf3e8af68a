use Rattle.tp_base.specs.Ranges.{IsLine}
use Rattle.set_cache.proofs.Places.{victim_fits}
use Rattle.l1_cache.proofs.data.L1D.load.Goals as goal

pub returns-clause-touch : goal.returns-clause-touch
returns-clause-touch g c = rw (← c.number.ensures.same) (rw (← c.self.view_is) c.touch.ensures.touch)

pub returns-clause-victim : goal.returns-clause-victim
returns-clause-victim g c =
    victim_fits IsLine c.touch.result c.number.result c.self.inside.cache c.touch.new.self
    c.touch.ensures.touch.moves c.self.invariant
