-- What each touch counts.
use Rattle.mem_system.proofs.TallyCases.{counts_law}
use Rattle.mem_system.proofs.tallies.cases.Goals as goal

pub returns : goal.returns
returns c = record { counts = counts_law }
