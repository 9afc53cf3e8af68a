-- The law that each change keeps the facts of page tables.
use Rattle.sv32_walk.specs.PageTableEntry.{vpn_0, vpn_1, table_word, leaf_word}
use Rattle.page_map.proofs.KeptLemmas.{unrefused_table, page_table, table_kept, root_kept, pointer-table, never}
use Rattle.page_map.proofs.laws.kept.Goals as goal

pub returns-clause-map : goal.returns-clause-map
returns-clause-map c = λ m root frames va frame rights can.
    table_kept m root frames va (leaf_word frame rights) (vpn_0 va) can.tables (unrefused_table m root va can.allowed)

pub returns-clause-unmap : goal.returns-clause-unmap
returns-clause-unmap c = λ m root frames va can.
    table_kept m root frames va 0 (vpn_0 va) can.tables (page_table m root va can.page)

pub returns-clause-install : goal.returns-clause-install
returns-clause-install c = λ m root frames va frame can.
    root_kept m root (vpn_1 va) (table_word frame) frames (λ _. pointer-table frame root frames can.in_memory can.apart.no_root)
    can.tables

pub returns-clause-uninstall : goal.returns-clause-uninstall
returns-clause-uninstall c = λ m root frames va can. root_kept m root (vpn_1 va) 0 frames (λ e. never e) can.tables
