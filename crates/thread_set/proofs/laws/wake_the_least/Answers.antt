use Rattle.thread_set.proofs.Changes.{waiter-first, waiter-least, woken-at, woken-others, woken-none}
use Rattle.thread_set.proofs.laws.wake_the_least.Goals as goal

pub returns-clause-waits : goal.returns-clause-waits
returns-clause-waits c = λ ts line w sound e. (waiter-first ts line w e).passes

pub returns-clause-least : goal.returns-clause-least
returns-clause-least c = λ ts line w t sound e below. waiter-least ts line w t e

pub returns-clause-woken : goal.returns-clause-woken
returns-clause-woken c = woken-at

pub returns-clause-others : goal.returns-clause-others
returns-clause-others c = woken-others

pub returns-clause-none : goal.returns-clause-none
returns-clause-none c = woken-none
