-- The laws of a table that is in use.
use Rattle.cap_table.proofs.UseLemmas.{use_only, use_each}
use Rattle.cap_table.proofs.laws.tables_in_use.Goals as goal

pub returns-clause-only : goal.returns-clause-only
returns-clause-only c = use_only

pub returns-clause-each : goal.returns-clause-each
returns-clause-each c = use_each
