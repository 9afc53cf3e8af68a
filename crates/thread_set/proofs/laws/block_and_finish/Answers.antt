use Rattle.thread_set.proofs.Changes.{blocked-at, blocked-others, finished-at, finished-others}
use Rattle.thread_set.proofs.laws.block_and_finish.Goals as goal

pub returns-clause-blocked : goal.returns-clause-blocked
returns-clause-blocked c = blocked-at

pub returns-clause-block_others : goal.returns-clause-block_others
returns-clause-block_others c = blocked-others

pub returns-clause-finished : goal.returns-clause-finished
returns-clause-finished c = finished-at

pub returns-clause-finish_others : goal.returns-clause-finish_others
returns-clause-finish_others c = finished-others
