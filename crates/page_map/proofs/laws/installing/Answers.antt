-- The law of walks after a table was installed.
use Rattle.sv32_walk.specs.PageTableEntry.{table_word}
use Rattle.page_map.proofs.RegionLemmas.{table_there, installed_fault, installed_same, region_elsewhere}
use Rattle.page_map.proofs.laws.installing.Goals as goal

pub returns-clause-fault : goal.returns-clause-fault
returns-clause-fault c = installed_fault

pub returns-clause-others : goal.returns-clause-others
returns-clause-others c = λ m root frames va frame can. region_elsewhere m root frames va (table_word frame) can.tables

pub returns-clause-same : goal.returns-clause-same
returns-clause-same c = λ m root frames va frame at access can. installed_same m root frames va frame can at access

pub returns-clause-there : goal.returns-clause-there
returns-clause-there c = λ m root frames va frame can. table_there m root frames va frame can.tables
