-- The law of page tables that are as they were.
use Rattle.page_map.specs.Reached.{IsIn}
use Rattle.page_map.proofs.KeptLemmas.{kept_by, once_by}
use Rattle.page_map.proofs.ReachLemmas.{same_beside, same_reaches, same_sealed}
use Rattle.page_map.proofs.WalkLemmas.{walk_by_tables}
use Rattle.page_map.proofs.laws.beside.Goals as goal

pub returns-clause-frame : goal.returns-clause-frame
returns-clause-frame c = same_beside

pub returns-clause-tables : goal.returns-clause-tables
returns-clause-tables c = λ old new root frames same k. kept_by old new root same.in_root frames k

pub returns-clause-once : goal.returns-clause-once
returns-clause-once c = λ old new root same o. once_by old new root same.in_root o

pub returns-clause-pool : goal.returns-clause-pool
returns-clause-pool c = λ pool old new root same r. same_reaches old new root same (IsIn pool) r

pub returns-clause-sealed : goal.returns-clause-sealed
returns-clause-sealed c = same_sealed

pub returns-clause-walks : goal.returns-clause-walks
returns-clause-walks c = walk_by_tables
