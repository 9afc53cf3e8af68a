-- The law of walks after a table was uninstalled.
use Rattle.page_map.proofs.RegionLemmas.{table_gone, uninstalled_fault, region_elsewhere}
use Rattle.page_map.proofs.laws.uninstalling.Goals as goal

pub returns-clause-fault : goal.returns-clause-fault
returns-clause-fault c = λ m root frames va can. uninstalled_fault m root frames va can.tables

pub returns-clause-others : goal.returns-clause-others
returns-clause-others c = λ m root frames va can. region_elsewhere m root frames va 0 can.tables

pub returns-clause-gone : goal.returns-clause-gone
returns-clause-gone c = λ m root frames va can. table_gone m root frames va can.tables
