-- The laws of what calls mean for the program.
use Rattle.call_table.proofs.MeaningRights.{no_wider, copies}
use Rattle.call_table.proofs.MeaningCalls.{alloc_means, map_means, no_more_than_pool}
use Rattle.call_table.proofs.MeaningRevoke.{delete_means, revoke_means}
use Rattle.call_table.proofs.laws.meaning.Goals as goal

pub returns-clause-map : goal.returns-clause-map
returns-clause-map c = λ e d x m a b rights f access h is named permits. map_means e d m h a b rights access permits x f is named

pub returns-clause-delete : goal.returns-clause-delete
returns-clause-delete c = λ e d x m a f w h is named others. delete_means e d x m a f w h named is others

pub returns-clause-revoke : goal.returns-clause-revoke
returns-clause-revoke c = λ e d x m a f w h is named. revoke_means e d x m a f w h named is

pub returns-clause-alloc : goal.returns-clause-alloc
returns-clause-alloc c = λ e d x m a b f h is named. alloc_means e d m h x a b f is named

pub returns-clause-no_wider : goal.returns-clause-no_wider
returns-clause-no_wider c = λ e d m. no_wider e d m

pub returns-clause-copies : goal.returns-clause-copies
returns-clause-copies c = λ d m xs i f r w is. copies m xs d i f r w is

pub returns-clause-pool : goal.returns-clause-pool
returns-clause-pool c = λ e d m fs h up all. no_more_than_pool e d m h fs up all
