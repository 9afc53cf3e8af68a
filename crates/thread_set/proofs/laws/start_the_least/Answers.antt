use Rattle.thread_set.proofs.Changes.{vacant-ended, vacant-least, spawned-at, spawned-others}
use Rattle.thread_set.proofs.laws.start_the_least.Goals as goal

pub returns-clause-vacant : goal.returns-clause-vacant
returns-clause-vacant c = λ ts v sound e. vacant-ended ts v e

pub returns-clause-least : goal.returns-clause-least
returns-clause-least c = λ ts v t sound e below. vacant-least ts v t e

pub returns-clause-started : goal.returns-clause-started
returns-clause-started c = spawned-at

pub returns-clause-others : goal.returns-clause-others
returns-clause-others c = spawned-others
