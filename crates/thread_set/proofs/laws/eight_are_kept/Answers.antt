use Rattle.thread_set.proofs.Changes.{opening-eight, thread-eight, yielded-eight, spawned-eight, blocked-eight, finished-eight, woken-eight, ended-eight}
use Rattle.thread_set.proofs.laws.eight_are_kept.Goals as goal

pub returns-clause-opening : goal.returns-clause-opening
returns-clause-opening c = opening-eight

pub returns-clause-yielded : goal.returns-clause-yielded
returns-clause-yielded c = yielded-eight

pub returns-clause-spawned : goal.returns-clause-spawned
returns-clause-spawned c = spawned-eight

pub returns-clause-blocked : goal.returns-clause-blocked
returns-clause-blocked c = blocked-eight

pub returns-clause-finished : goal.returns-clause-finished
returns-clause-finished c = finished-eight

pub returns-clause-woken : goal.returns-clause-woken
returns-clause-woken c = woken-eight

pub returns-clause-ended : goal.returns-clause-ended
returns-clause-ended c = ended-eight

pub returns-clause-put : goal.returns-clause-put
returns-clause-put c = thread-eight
