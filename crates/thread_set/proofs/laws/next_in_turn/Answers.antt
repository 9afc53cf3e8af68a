use Rattle.std.proofs.Common.{ap, List, get_or}
use Rattle.thread_set.specs.declared.Thread.{Thread}
use Rattle.thread_set.specs.Threads.{never}
use Rattle.thread_set.proofs.Turns.{yielded-ready, yielded-soonest, yielded-none, yielded-all, given-ready, given-all}
use Rattle.thread_set.proofs.laws.next_in_turn.Goals as goal

pub returns-clause-ready : goal.returns-clause-ready
returns-clause-ready c = yielded-ready

pub returns-clause-soonest : goal.returns-clause-soonest
returns-clause-soonest c = yielded-soonest

pub returns-clause-none : goal.returns-clause-none
returns-clause-none c = yielded-none

pub returns-clause-same : goal.returns-clause-same
returns-clause-same c = λ ts t sound. ap (λ (xs : List Thread). get_or xs t never) (yielded-all ts sound)

pub returns-clause-gives_way : goal.returns-clause-gives_way
returns-clause-gives_way c = given-ready

pub returns-clause-gives_same : goal.returns-clause-gives_same
returns-clause-gives_same c = λ ts t sound. ap (λ (xs : List Thread). get_or xs t never) (given-all ts sound)
