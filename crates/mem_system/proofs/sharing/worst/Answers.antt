-- What touches and a switch cost at worst.
use Rattle.mem_system.proofs.Worst.{worst_law, switch_law, on_time_law}
use Rattle.mem_system.proofs.sharing.worst.Goals as goal

pub returns-clause-touches : goal.returns-clause-touches
returns-clause-touches c = worst_law

pub returns-clause-switch : goal.returns-clause-switch
returns-clause-switch c = switch_law

pub returns-clause-on_time : goal.returns-clause-on_time
returns-clause-on_time c = on_time_law
