-- The laws of what is printed.
use Rattle.call_table.proofs.MeaningThreads.{put_means, full_means}
use Rattle.call_table.proofs.laws.output.Goals as goal

pub returns-clause-put : goal.returns-clause-put
returns-clause-put c = λ e d m is room. put_means e d m is room

pub returns-clause-full : goal.returns-clause-full
returns-clause-full c = λ e d m is full. full_means e d m is full
