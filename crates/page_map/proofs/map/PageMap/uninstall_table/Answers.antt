-- A table that was uninstalled.
use Rattle.std.proofs.Common.{refl}
use Rattle.page_map.proofs.WriteLemmas.{holds_at}
use Rattle.page_map.proofs.map.PageMap.uninstall_table.Goals as goal

pub returns-clause-uninstalled : goal.returns-clause-uninstalled
returns-clause-uninstalled c = λ m holds.
    holds_at c.write_word.new.self m _ _ _ _ _ _ c.pointer-pointer.ensures.frame c.pointer-pointer.ensures.place refl
    (c.write_word.ensures.holds m holds)
