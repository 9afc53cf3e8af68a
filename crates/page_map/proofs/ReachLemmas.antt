-- What is reached from the root after a write to a table, to the root, or to a frame beside them.
use Rattle.std.proofs.Common.{◌≡◌, ◌≢◌, ◌∙◌, ap, sym, subst, inl, inr, ℕ, ◌<◌, true, false, true≢false}
use Rattle.phys_mem.specs.Mem.{Mem, word, written, word-written_frame}
use Rattle.sv32_walk.specs.PageTableEntry.{valid, ppn, vpn_0, table_word}
use Rattle.sv32_walk.proofs.WordLemmas.{ppn-table}
use Rattle.page_map.specs.Tables.{IsPointer, IsPageMap, IsBlank, has_table, table_of}
use Rattle.page_map.specs.Reached.{leaf_at, TablesIn, PagesIn, ReachesIn, IsApart, IsSealed, SameTables}
use Rattle.page_map.proofs.KeptLemmas.{at_write, root_stays, RootAt, here, there, root_at, new_root, not_valid, none_valid}

pub weaker : (P Q : ℕ → Type 0) → ((f : ℕ) → P f → Q f) → (mem : Mem) (root : ℕ) → PagesIn P mem root
    → PagesIn Q mem root
weaker P Q f mem root p = record { each = λ i j i_below j_below i_valid j_valid. f _ (p.each i j i_below j_below i_valid j_valid) }

-- pages stay apart from the tables, where each frame that was no table is none
still_apart : (m n : Mem) (root : ℕ) (pages : ℕ → Type 0)
    → ((f : ℕ) → pages f → IsApart m root f × (TablesIn (λ t. t ≢ f) m root → TablesIn (λ t. t ≢ f) n root))
    → PagesIn pages n root → IsSealed n root
still_apart m n root pages stays p =
    weaker pages (IsApart n root)
    (λ f is. let both = stays f is in
    let none : TablesIn (λ t. t ≢ f) n root = both.1 (record { each = both.0.no_table.unnamed }) in
    record { no_root = both.0.no_root; no_table = record { unnamed = none.each } })
    n root p

-- ---- a write to the table of an address

module _ (mem : Mem) (root frames va value : ℕ) (k : IsPageMap mem root frames) (table : has_table mem root va ≡ true) where
  stays : (i : ℕ) → word (written mem (table_of mem root va) (vpn_0 va) value) root i ≡ word mem root i
  stays i = root_stays mem root frames va k table (vpn_0 va) value i

  pub table_tables : (pool : ℕ → Type 0) → TablesIn pool mem root
      → TablesIn pool (written mem (table_of mem root va) (vpn_0 va) value) root
  table_tables pool t = record {
    each = λ i below is_valid.
        subst (λ (e : ℕ). pool (ppn e)) (sym (stays i)) (t.each i below (ap valid (sym (stays i)) ∙ is_valid));
  }

  pub table_pages : (pool : ℕ → Type 0) → (valid value ≡ true → pool (ppn value)) → PagesIn pool mem root
      → PagesIn pool (written mem (table_of mem root va) (vpn_0 va) value) root
  table_pages pool given p = record {
    each = λ i j i_below j_below.
        let new : Mem = written mem (table_of mem root va) (vpn_0 va) value in
        subst (λ (e : ℕ). valid e ≡ true → valid (word new (ppn e) j) ≡ true → pool (ppn (word new (ppn e) j))) (sym (stays i))
        (λ i_valid j_valid. elim (at_write mem (table_of mem root va) (vpn_0 va) value (ppn (word mem root i)) j) [
          | inl is ↦ subst (λ (w : ℕ). pool (ppn w)) (sym is.2) (given (ap valid (sym is.2) ∙ j_valid))
          | inr is ↦
              subst (λ (w : ℕ). pool (ppn w)) (sym is) (p.each i j i_below j_below i_valid (ap valid (sym is) ∙ j_valid))
        ]);
  }

  pub table_reaches : (pool : ℕ → Type 0) → (valid value ≡ true → pool (ppn value)) → ReachesIn pool mem root
      → ReachesIn pool (written mem (table_of mem root va) (vpn_0 va) value) root
  table_reaches pool given r = record { tables = table_tables pool r.tables; pages = table_pages pool given r.pages }

  pub table_sealed : (valid value ≡ true → IsApart mem root (ppn value)) → IsSealed mem root
      → IsSealed (written mem (table_of mem root va) (vpn_0 va) value) root
  table_sealed given s =
      still_apart mem (written mem (table_of mem root va) (vpn_0 va) value) root (IsApart mem root)
      (λ f is. (is, table_tables (λ t. t ≢ f))) (table_pages (IsApart mem root) given s)

-- ---- a write to the root

module _ (mem : Mem) (root frames place value : ℕ) (k : IsPageMap mem root frames) where
  root_table : (pool : ℕ → Type 0) → (valid value ≡ true → pool (ppn value)) → TablesIn pool mem root
      → (i : ℕ) → i < 1024 → RootAt mem root place value i
      → valid (new_root mem root place value i) ≡ true → pool (ppn (new_root mem root place value i))
  root_table pool given t i below (here at is) is_valid =
      subst (λ (e : ℕ). pool (ppn e)) (sym is) (given (ap valid (sym is) ∙ is_valid))
  root_table pool given t i below (there at is) is_valid =
      subst (λ (e : ℕ). pool (ppn e)) (sym is) (t.each i below (ap valid (sym is) ∙ is_valid))

  pub root_tables : (pool : ℕ → Type 0) → (valid value ≡ true → pool (ppn value)) → TablesIn pool mem root
      → TablesIn pool (written mem root place value) root
  root_tables pool given t = record { each = λ i below. root_table pool given t i below (root_at mem root place value i) }

  -- the table that the new word names has no leaf
  module _ (no_leaf : valid value ≡ true → (j : ℕ) → j < 1024 → valid (word (written mem root place value) (ppn value) j) ≡ false) where
    root_page : (pool : ℕ → Type 0) → PagesIn pool mem root
        → (i j : ℕ) → i < 1024 → j < 1024 → RootAt mem root place value i
        → valid (new_root mem root place value i) ≡ true → valid (leaf_at (written mem root place value) root i j) ≡ true
        → pool (ppn (leaf_at (written mem root place value) root i j))
    root_page pool p i j i_below j_below (here at is) i_valid j_valid =
        absurd (true≢false (sym j_valid ∙ ap (λ (e : ℕ). valid (word (written mem root place value) (ppn e) j)) is
        ∙ no_leaf (ap valid (sym is) ∙ i_valid) j j_below))
    root_page pool p i j i_below j_below (there at is) i_valid j_valid =
        let old_valid : valid (word mem root i) ≡ true = ap valid (sym is) ∙ i_valid in
        let old : IsPointer (word mem root i) root frames = k.tables i i_below old_valid in
        let same : leaf_at (written mem root place value) root i j ≡ leaf_at mem root i j =
        ap (λ (e : ℕ). word (written mem root place value) (ppn e) j) is
        ∙ word-written_frame mem root place value (ppn (word mem root i)) j old.apart in
        subst (λ (w : ℕ). pool (ppn w)) (sym same) (p.each i j i_below j_below old_valid (ap valid (sym same) ∙ j_valid))

    pub root_pages : (pool : ℕ → Type 0) → PagesIn pool mem root
        → PagesIn pool (written mem root place value) root
    root_pages pool p = record {
      each = λ i j i_below j_below. root_page pool p i j i_below j_below (root_at mem root place value i);
    }

    pub root_reaches : (pool : ℕ → Type 0) → (valid value ≡ true → pool (ppn value)) → ReachesIn pool mem root
        → ReachesIn pool (written mem root place value) root
    root_reaches pool given r = record { tables = root_tables pool given r.tables; pages = root_pages pool r.pages }

    pub root_sealed : (valid value ≡ true → PagesIn (λ page. page ≢ ppn value) mem root) → IsSealed mem root
        → IsSealed (written mem root place value) root
    root_sealed free s =
        let apart : ℕ → Type 0 = λ f. IsApart mem root f × (valid value ≡ true → f ≢ ppn value) in
        let both : PagesIn apart mem root = record {
          each = λ i j i_below j_below i_valid j_valid.
              (s.each i j i_below j_below i_valid j_valid, λ is. (free is).each i j i_below j_below i_valid j_valid);
        } in
        still_apart mem (written mem root place value) root apart
        (λ f is. (is.0, root_tables (λ t. t ≢ f) (λ v e. is.1 v (sym e)))) (root_pages apart both)

pub blank_leaf : (mem : Mem) (root place frame : ℕ) → frame ≢ root → IsBlank mem frame → (j : ℕ) → j < 1024
    → valid (word (written mem root place (table_word frame)) (ppn (table_word frame)) j) ≡ false
blank_leaf mem root place frame apart blank j below =
    not_valid _ (ap (λ (f : ℕ). word (written mem root place (table_word frame)) f j) (ppn-table frame)
    ∙ word-written_frame mem root place (table_word frame) frame j apart ∙ blank.zero j below)

-- ---- a root that reads zero

blank_pages : (pool : ℕ → Type 0) (mem : Mem) (root : ℕ) → IsBlank mem root → PagesIn pool mem root
blank_pages pool mem root blank = record {
  each = λ i j i_below j_below i_valid j_valid. none_valid mem root blank i i_below i_valid;
}

pub blank_in : (pool : ℕ → Type 0) (mem : Mem) (root : ℕ) → IsBlank mem root → ReachesIn pool mem root
blank_in pool mem root blank = record {
  tables = record { each = λ i below is_valid. none_valid mem root blank i below is_valid };
  pages = blank_pages pool mem root blank;
}

pub blank_sealed : (mem : Mem) (root : ℕ) → IsBlank mem root → IsSealed mem root
blank_sealed mem root blank = blank_pages (IsApart mem root) mem root blank

-- ---- page tables as they were

-- in a memory that differs in a frame beside them alone
pub same_beside : (m n : Mem) (root frame : ℕ) → IsApart m root frame
    → ((other i : ℕ) → other ≢ frame → word n other i ≡ word m other i) → SameTables m n root
same_beside m n root frame a same =
    let same_root : (i : ℕ) → word n root i ≡ word m root i = λ i. same root i (λ e. a.no_root (sym e)) in
    record {
      in_root = λ i below. same_root i;
      in_tables = λ i j i_below j_below i_valid.
          ap (λ (e : ℕ). word n (ppn e) j) (same_root i)
          ∙ same (ppn (word m root i)) j (a.no_table.unnamed i i_below i_valid);
    }

module _ (m n : Mem) (root : ℕ) (same : SameTables m n root) where
  was_valid : (i : ℕ) → i < 1024 → valid (word n root i) ≡ true → valid (word m root i) ≡ true
  was_valid i below is_valid = ap valid (sym (same.in_root i below)) ∙ is_valid

  pub same_tables : (pool : ℕ → Type 0) → TablesIn pool m root → TablesIn pool n root
  same_tables pool t = record {
    each = λ i below is_valid.
        subst (λ (e : ℕ). pool (ppn e)) (sym (same.in_root i below)) (t.each i below (was_valid i below is_valid));
  }

  pub same_pages : (pool : ℕ → Type 0) → PagesIn pool m root → PagesIn pool n root
  same_pages pool p = record {
    each = λ i j i_below j_below i_valid j_valid.
        let leaf : leaf_at n root i j ≡ leaf_at m root i j = same.in_tables i j i_below j_below (was_valid i i_below i_valid) in
        subst (λ (w : ℕ). pool (ppn w)) (sym leaf)
        (p.each i j i_below j_below (was_valid i i_below i_valid) (ap valid (sym leaf) ∙ j_valid));
  }

  pub same_reaches : (pool : ℕ → Type 0) → ReachesIn pool m root → ReachesIn pool n root
  same_reaches pool r = record { tables = same_tables pool r.tables; pages = same_pages pool r.pages }

  pub same_sealed : IsSealed m root → IsSealed n root
  same_sealed s = still_apart m n root (IsApart m root) (λ f is. (is, same_tables (λ t. t ≢ f))) (same_pages (IsApart m root) s)
