-- The laws of the rights of leaves.
use Rattle.call_table.proofs.RightsKept.{nothing_mapped, calls_within, stores_within, walks_within}
use Rattle.call_table.proofs.laws.rights.Goals as goal

pub returns-clause-at_first : goal.returns-clause-at_first
returns-clause-at_first c = λ e d m none. nothing_mapped e d m none

pub returns-clause-calls : goal.returns-clause-calls
returns-clause-calls c = λ e d m s h w. calls_within e d m s h w

pub returns-clause-stores : goal.returns-clause-stores
returns-clause-stores c = λ e d m f i v h w page. stores_within e d m f i v h w page

pub returns-clause-walks : goal.returns-clause-walks
returns-clause-walks c = λ e d m va leaf access h w is. walks_within e d m va leaf access h w is
