-- What a domain touches counts the same among others as alone.
use Rattle.mem_system.proofs.TallyBeside.{tally_beside_law}
use Rattle.mem_system.proofs.tallies.own_tallies.Goals as goal

pub returns : goal.returns
returns c = record { beside = tally_beside_law }
