-- The law of where walks read and end.
use Rattle.page_map.specs.Reached.{IsIn}
use Rattle.page_map.proofs.ReachedWalks.{walk_reads, walk_page, walk_inside}
use Rattle.page_map.proofs.laws.reaching.Goals as goal

pub returns-clause-reads : goal.returns-clause-reads
returns-clause-reads c = λ pool m root frames va access k own r. walk_reads m root frames k va access (IsIn pool) own r.tables

pub returns-clause-page : goal.returns-clause-page
returns-clause-page c = λ pool m root frames va leaf access k r e. walk_page m root frames k va access (IsIn pool) r.pages leaf e

pub returns-clause-inside : goal.returns-clause-inside
returns-clause-inside c = λ m root frames va access k pages. walk_inside m root frames k va access pages
