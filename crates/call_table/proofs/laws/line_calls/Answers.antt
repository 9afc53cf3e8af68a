-- The laws of the calls of interrupt lines.
use Rattle.call_table.proofs.MeaningThreads.{poll_set, poll_clear, wait_set, wait_clear, signal_means}
use Rattle.call_table.proofs.laws.line_calls.Goals as goal

pub returns-clause-poll_set : goal.returns-clause-poll_set
returns-clause-poll_set c = λ e d m line is names bit. poll_set e d m line is names bit

pub returns-clause-poll_clear : goal.returns-clause-poll_clear
returns-clause-poll_clear c = λ e d m line is names bit. poll_clear e d m line is names bit

pub returns-clause-wait_set : goal.returns-clause-wait_set
returns-clause-wait_set c = λ e d m line is names bit. wait_set e d m line is names bit

pub returns-clause-wait_clear : goal.returns-clause-wait_clear
returns-clause-wait_clear c = λ e d m line sound is names bit. wait_clear e d m line sound is names bit

pub returns-clause-signal : goal.returns-clause-signal
returns-clause-signal c = λ e d m line sound run is names. signal_means e d m line sound run is names
