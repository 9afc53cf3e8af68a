-- The laws of the calls of threads.
use Rattle.call_table.proofs.MeaningThreads.{exit_means, spawn_means, no_thread, yield_means, end_means}
use Rattle.call_table.proofs.laws.thread_calls.Goals as goal

pub returns-clause-exit : goal.returns-clause-exit
returns-clause-exit c = λ e d m sound is. exit_means e d m sound is

pub returns-clause-spawn : goal.returns-clause-spawn
returns-clause-spawn c = λ e d m t sound run is aligned v. spawn_means e d m t sound run is aligned v

pub returns-clause-no_thread : goal.returns-clause-no_thread
returns-clause-no_thread c = λ e d m sound is aligned live. no_thread e d m sound is aligned live

pub returns-clause-yields : goal.returns-clause-yields
returns-clause-yields c = λ e d m sound run is. yield_means e d m sound run is

pub returns-clause-end_thread : goal.returns-clause-end_thread
returns-clause-end_thread c = λ e d m sound is. end_means e d m sound is
