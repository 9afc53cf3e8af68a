-- What the core promises over any second level, over this one.
use Rattle.mem_system.proofs.system.MemSystem.jump.Goals as goal

pub returns-clause-makes : goal.returns-clause-makes
returns-clause-makes g c = rw (← c.self.view_is) (c.jump.ensures.makes c.self.inside.l2)
