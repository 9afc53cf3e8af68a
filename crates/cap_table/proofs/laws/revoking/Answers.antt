-- The laws of a revocation.
use Rattle.cap_table.proofs.RevokeLemmas.{after_itself, after_unlike, none_left, counted, all_counted, all_written}
use Rattle.cap_table.proofs.laws.revoking.Goals as goal

pub returns-clause-none : goal.returns-clause-none
returns-clause-none c = none_left

pub returns-clause-itself : goal.returns-clause-itself
returns-clause-itself c = after_itself

pub returns-clause-others : goal.returns-clause-others
returns-clause-others c = after_unlike

pub returns-clause-count : goal.returns-clause-count
returns-clause-count c = counted

pub returns-clause-number : goal.returns-clause-number
returns-clause-number c = all_counted

pub returns-clause-entries : goal.returns-clause-entries
returns-clause-entries c = all_written
