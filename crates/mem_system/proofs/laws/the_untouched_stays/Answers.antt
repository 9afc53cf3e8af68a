-- What isn't touched stays.
use Rattle.mem_system.proofs.TouchLaws.{l1i_stays, l1d_stays, tlb_stays, counters_stay, history_stays, targets_stay}
use Rattle.mem_system.proofs.laws.the_untouched_stays.Goals as goal

pub returns-clause-l1i : goal.returns-clause-l1i
returns-clause-l1i c = l1i_stays

pub returns-clause-l1d : goal.returns-clause-l1d
returns-clause-l1d c = l1d_stays

pub returns-clause-tlb : goal.returns-clause-tlb
returns-clause-tlb c = tlb_stays

pub returns-clause-counters : goal.returns-clause-counters
returns-clause-counters c = counters_stay

pub returns-clause-history : goal.returns-clause-history
returns-clause-history c = history_stays

pub returns-clause-targets : goal.returns-clause-targets
returns-clause-targets c = targets_stay
