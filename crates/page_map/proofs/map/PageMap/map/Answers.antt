-- A page that was mapped.
use Rattle.std.proofs.Common.{◌∙◌, ap}
use Rattle.sv32_walk.specs.PageTableEntry.{ppn}
use Rattle.page_map.proofs.WriteLemmas.{holds_at}
use Rattle.page_map.proofs.map.PageMap.map.Goals as goal

pub returns-clause-mapped : goal.returns-clause-mapped
returns-clause-mapped c = λ m holds.
    holds_at c.write_word.new.self m _ _ _ _ _ _
    (c.leaf_of-leaf.ensures.frame ∙ c.frame.ensures.value ∙ ap ppn (c.pointer-pointer.ensures.word m holds))
    c.leaf_of-leaf.ensures.place c.leaf_word.ensures.value (c.write_word.ensures.holds m holds)
