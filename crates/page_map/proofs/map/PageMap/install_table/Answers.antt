-- A table that was installed.
use Rattle.page_map.proofs.WriteLemmas.{holds_at}
use Rattle.page_map.proofs.map.PageMap.install_table.Goals as goal

pub returns-clause-installed : goal.returns-clause-installed
returns-clause-installed c = λ m holds.
    holds_at c.write_word.new.self m _ _ _ _ _ _ c.pointer-pointer.ensures.frame c.pointer-pointer.ensures.place
    c.table_word.ensures.value (c.write_word.ensures.holds m holds)
