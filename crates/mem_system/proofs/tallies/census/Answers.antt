-- Each touch of a list is counted once, and no dirty line is given up twice.
use Rattle.mem_system.proofs.TallyCensus.{census_law, backs_law}
use Rattle.mem_system.proofs.tallies.census.Goals as goal

pub returns-clause-each : goal.returns-clause-each
returns-clause-each c = census_law

pub returns-clause-backs : goal.returns-clause-backs
returns-clause-backs c = backs_law
