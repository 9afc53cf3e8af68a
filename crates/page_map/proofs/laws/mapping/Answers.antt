-- The law of walks after a page was mapped.
use Rattle.std.proofs.Common.{◌∙◌}
use Rattle.sv32_walk.specs.PageTableEntry.{leaf_word}
use Rattle.sv32_walk.proofs.WordLemmas.{valid-leaf}
use Rattle.page_map.proofs.KeptLemmas.{unrefused_table}
use Rattle.page_map.proofs.PageLemmas.{page_by, mapped_leaf, mapped_fault, page_elsewhere}
use Rattle.page_map.proofs.laws.mapping.Goals as goal

pub returns-clause-leaf : goal.returns-clause-leaf
returns-clause-leaf c = mapped_leaf

pub returns-clause-fault : goal.returns-clause-fault
returns-clause-fault c = mapped_fault

pub returns-clause-others : goal.returns-clause-others
returns-clause-others c = λ m root frames va frame rights can.
    page_elsewhere m root frames va (leaf_word frame rights) can.tables (unrefused_table m root va can.allowed)

pub returns-clause-there : goal.returns-clause-there
returns-clause-there c = λ m root frames va frame rights can.
    page_by m root frames va (leaf_word frame rights) can.tables (unrefused_table m root va can.allowed)
    ∙ valid-leaf frame rights can.rights_are_good
