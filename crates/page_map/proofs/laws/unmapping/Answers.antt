-- The law of walks after a page was unmapped.
use Rattle.std.proofs.Common.{◌∙◌, refl}
use Rattle.sv32_walk.proofs.WordLemmas.{valid-zero}
use Rattle.page_map.proofs.KeptLemmas.{page_table}
use Rattle.page_map.proofs.PageLemmas.{page_by, cleared_fault, page_elsewhere}
use Rattle.page_map.proofs.laws.unmapping.Goals as goal

pub returns-clause-fault : goal.returns-clause-fault
returns-clause-fault c = λ m root frames va can.
    cleared_fault m root frames va 0 can.tables (page_table m root va can.page) refl

pub returns-clause-others : goal.returns-clause-others
returns-clause-others c = λ m root frames va can.
    page_elsewhere m root frames va 0 can.tables (page_table m root va can.page)

pub returns-clause-gone : goal.returns-clause-gone
returns-clause-gone c = λ m root frames va can.
    page_by m root frames va 0 can.tables (page_table m root va can.page) ∙ valid-zero
