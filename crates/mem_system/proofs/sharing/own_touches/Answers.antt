-- What a domain touches.
use Rattle.mem_system.proofs.OwnTouches.{beside_law, others_law, own_dirty_law, stays_law, prefetch_law, prefetch_stays_law}
use Rattle.mem_system.proofs.Settling.{settled_law}
use Rattle.mem_system.proofs.sharing.own_touches.Goals as goal

pub returns-clause-beside : goal.returns-clause-beside
returns-clause-beside c = beside_law

pub returns-clause-others : goal.returns-clause-others
returns-clause-others c = others_law

pub returns-clause-own_dirty : goal.returns-clause-own_dirty
returns-clause-own_dirty c = own_dirty_law

pub returns-clause-stays : goal.returns-clause-stays
returns-clause-stays c = stays_law

pub returns-clause-prefetch : goal.returns-clause-prefetch
returns-clause-prefetch c = prefetch_law

pub returns-clause-prefetch_stays : goal.returns-clause-prefetch_stays
returns-clause-prefetch_stays c = prefetch_stays_law

pub returns-clause-settled : goal.returns-clause-settled
returns-clause-settled c = settled_law
