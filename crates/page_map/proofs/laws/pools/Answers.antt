-- The law that what is reached stays in a pool.
use Rattle.std.proofs.Common.{subst, sym}
use Rattle.sv32_walk.specs.PageTableEntry.{vpn_1, table_word, leaf_word}
use Rattle.sv32_walk.proofs.WordLemmas.{ppn-table, ppn-leaf}
use Rattle.page_map.specs.Reached.{IsIn}
use Rattle.page_map.proofs.KeptLemmas.{unrefused_table, page_table, never}
use Rattle.page_map.proofs.ReachLemmas.{table_reaches, root_reaches, blank_leaf}
use Rattle.page_map.proofs.laws.pools.Goals as goal

pub returns-clause-map : goal.returns-clause-map
returns-clause-map c = λ pool m root frames va frame rights can r given.
    table_reaches m root frames va (leaf_word frame rights) can.tables (unrefused_table m root va can.allowed) (IsIn pool)
    (λ _. subst (IsIn pool) (sym (ppn-leaf frame rights can.rights_are_good)) given) r

pub returns-clause-unmap : goal.returns-clause-unmap
returns-clause-unmap c = λ pool m root frames va can r.
    table_reaches m root frames va 0 can.tables (page_table m root va can.page) (IsIn pool) (λ e. never e) r

pub returns-clause-install : goal.returns-clause-install
returns-clause-install c = λ pool m root frames va frame can r given.
    root_reaches m root frames (vpn_1 va) (table_word frame) can.tables
    (λ _ j below. blank_leaf m root (vpn_1 va) frame can.apart.no_root can.blank j below) (IsIn pool)
    (λ _. subst (IsIn pool) (sym (ppn-table frame)) given) r

pub returns-clause-uninstall : goal.returns-clause-uninstall
returns-clause-uninstall c = λ pool m root frames va can r.
    root_reaches m root frames (vpn_1 va) 0 can.tables (λ e. never e) (IsIn pool) (λ e. never e) r
