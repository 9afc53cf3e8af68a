-- Touches one after the other count the sum.
use Rattle.mem_system.proofs.TallyPrices.{append_law, one_law}
use Rattle.mem_system.proofs.tallies.sums.Goals as goal

pub returns-clause-append : goal.returns-clause-append
returns-clause-append c = append_law

pub returns-clause-one : goal.returns-clause-one
returns-clause-one c = one_law
