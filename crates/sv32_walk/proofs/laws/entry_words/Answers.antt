-- The law of the words that the kernel writes.
use Rattle.sv32_walk.proofs.WordLemmas.{ppn-table, points-table, ppn-leaf, permits-leaf, accessed-leaf, dirty-leaf}
use Rattle.sv32_walk.proofs.laws.entry_words.Goals as goal

pub returns-clause-frame : goal.returns-clause-frame
returns-clause-frame c = ppn-leaf

pub returns-clause-rights : goal.returns-clause-rights
returns-clause-rights c = permits-leaf

pub returns-clause-accessed : goal.returns-clause-accessed
returns-clause-accessed c = accessed-leaf

pub returns-clause-dirty : goal.returns-clause-dirty
returns-clause-dirty c = dirty-leaf

pub returns-clause-table : goal.returns-clause-table
returns-clause-table c = ppn-table

pub returns-clause-pointer : goal.returns-clause-pointer
returns-clause-pointer c = points-table
