-- Each cost is one of the table's.
use Rattle.mem_system.proofs.TouchLaws.{cost_is}
use Rattle.mem_system.proofs.laws.costs_are_the_tables.Goals as goal

pub returns : goal.returns
returns c = record { cost = cost_is }
