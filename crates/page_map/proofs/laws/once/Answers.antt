-- The law that no change installs a table twice.
use Rattle.std.proofs.Common.{subst, sym}
use Rattle.sv32_walk.specs.PageTableEntry.{vpn_0, vpn_1, table_word, leaf_word}
use Rattle.sv32_walk.proofs.WordLemmas.{ppn-table}
use Rattle.page_map.specs.Tables.{IsNoTable}
use Rattle.page_map.proofs.KeptLemmas.{unrefused_table, page_table, table_once, root_once, never}
use Rattle.page_map.proofs.laws.once.Goals as goal

pub returns-clause-map : goal.returns-clause-map
returns-clause-map c = λ m root frames va frame rights can.
    table_once m root frames va (leaf_word frame rights) (vpn_0 va) can.tables (unrefused_table m root va can.allowed)

pub returns-clause-unmap : goal.returns-clause-unmap
returns-clause-unmap c = λ m root frames va can.
    table_once m root frames va 0 (vpn_0 va) can.tables (page_table m root va can.page)

pub returns-clause-install : goal.returns-clause-install
returns-clause-install c = λ m root frames va frame can.
    root_once m root (vpn_1 va) (table_word frame) (λ _. subst (IsNoTable m root) (sym (ppn-table frame)) can.apart.no_table)

pub returns-clause-uninstall : goal.returns-clause-uninstall
returns-clause-uninstall c = λ m root frames va can. root_once m root (vpn_1 va) 0 (λ e. never e)
