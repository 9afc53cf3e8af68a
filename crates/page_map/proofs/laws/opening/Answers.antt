-- The law of tables that read zero.
use Rattle.page_map.specs.Reached.{IsIn}
use Rattle.page_map.proofs.KeptLemmas.{blank_tables, blank_once, blank_unnamed, blank_empty}
use Rattle.page_map.proofs.ReachLemmas.{blank_in, blank_sealed}
use Rattle.page_map.proofs.laws.opening.Goals as goal

pub returns-clause-tables : goal.returns-clause-tables
returns-clause-tables c = λ m root frames in_memory blank. blank_tables m root blank frames in_memory

pub returns-clause-once : goal.returns-clause-once
returns-clause-once c = blank_once

pub returns-clause-no_table : goal.returns-clause-no_table
returns-clause-no_table c = λ m root frame blank. blank_unnamed m root blank frame

pub returns-clause-pool : goal.returns-clause-pool
returns-clause-pool c = λ pool. blank_in (IsIn pool)

pub returns-clause-sealed : goal.returns-clause-sealed
returns-clause-sealed c = blank_sealed

pub returns-clause-empty : goal.returns-clause-empty
returns-clause-empty c = blank_empty
