-- A page that was unmapped.
use Rattle.std.proofs.Common.{◌∙◌, ap, refl}
use Rattle.sv32_walk.specs.PageTableEntry.{ppn}
use Rattle.page_map.proofs.WriteLemmas.{holds_at}
use Rattle.page_map.proofs.map.PageMap.unmap.Goals as goal

pub returns-clause-unmapped : goal.returns-clause-unmapped
returns-clause-unmapped c = λ m holds.
    holds_at c.write_word.new.self m _ _ _ _ _ _
    (c.leaf_of-leaf.ensures.frame ∙ c.frame.ensures.value ∙ ap ppn (c.pointer-pointer.ensures.word m holds))
    c.leaf_of-leaf.ensures.place refl (c.write_word.ensures.holds m holds)
