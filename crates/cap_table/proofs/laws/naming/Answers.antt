-- The laws of frames that no slot names.
use Rattle.cap_table.proofs.SoundLemmas.{empty_at, empty_unnamed, still_unnamed}
use Rattle.cap_table.proofs.laws.naming.Goals as goal

pub returns-clause-empty : goal.returns-clause-empty
returns-clause-empty c = empty_at

pub returns-clause-none : goal.returns-clause-none
returns-clause-none c = empty_unnamed

pub returns-clause-others : goal.returns-clause-others
returns-clause-others c = still_unnamed
