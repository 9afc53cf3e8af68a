-- The law that no page comes to lie on the page tables.
use Rattle.std.proofs.Common.{◌≢◌, subst, sym, ℕ}
use Rattle.sv32_walk.specs.PageTableEntry.{vpn_1, table_word, leaf_word}
use Rattle.sv32_walk.proofs.WordLemmas.{ppn-table, ppn-leaf}
use Rattle.page_map.specs.Reached.{PagesIn, IsApart}
use Rattle.page_map.proofs.KeptLemmas.{unrefused_table, page_table, never}
use Rattle.page_map.proofs.ReachLemmas.{table_sealed, root_sealed, blank_leaf}
use Rattle.page_map.proofs.laws.sealed.Goals as goal

pub returns-clause-map : goal.returns-clause-map
returns-clause-map c = λ m root frames va frame rights can.
    table_sealed m root frames va (leaf_word frame rights) can.tables (unrefused_table m root va can.allowed)
    (λ _. subst (IsApart m root) (sym (ppn-leaf frame rights can.rights_are_good)) can.apart)

pub returns-clause-unmap : goal.returns-clause-unmap
returns-clause-unmap c = λ m root frames va can.
    table_sealed m root frames va 0 can.tables (page_table m root va can.page) (λ e. never e)

pub returns-clause-install : goal.returns-clause-install
returns-clause-install c = λ m root frames va frame can s free.
    root_sealed m root frames (vpn_1 va) (table_word frame) can.tables
    (λ _ j below. blank_leaf m root (vpn_1 va) frame can.apart.no_root can.blank j below)
    (λ _. subst (λ (f : ℕ). PagesIn (λ page. page ≢ f) m root) (sym (ppn-table frame)) free) s

pub returns-clause-uninstall : goal.returns-clause-uninstall
returns-clause-uninstall c = λ m root frames va can.
    root_sealed m root frames (vpn_1 va) 0 can.tables (λ e. never e) (λ e. never e)
