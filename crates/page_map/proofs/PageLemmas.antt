-- What walks come to after a leaf was written or cleared.
use Rattle.std.proofs.Common.{◌≡◌, ◌≢◌, ◌∙◌, ap, sym, subst, inl, inr, ℕ, ◌/◌, ◌^◌, ◌<◌, refl, Bool, ◌&&◌, true, false}
use Rattle.std.proofs.lemmas.Bool.{cases_eq, cases_Bool}
use Rattle.std.specs.Prelude.{Ok, Err}
use Rattle.phys_mem.specs.Mem.{Mem, word, written, word-written_same, word-written_place, word-written_frame}
use Rattle.sv32_walk.specs.declared.access.Access.{Access}
use Rattle.sv32_walk.specs.declared.access.WalkFault.TheVariants as fault
use Rattle.sv32_walk.specs.PageTableEntry.{valid, ppn, vpn_0, vpn_1, rights_permit, leaf_word}
use Rattle.sv32_walk.specs.Walk.{last_level, walk}
use Rattle.sv32_walk.specs.Translation.{first_entry, second_entry, Allows, Points, InPage, small}
use Rattle.sv32_walk.proofs.WordLemmas.{valid-zero, ppn-leaf, allows-leaf, refuses-leaf}
use Rattle.sv32_walk.proofs.WalkLemmas.{leaf_in_words}
use Rattle.sv32_walk.proofs.KeptLeafLemmas.{same_region, same_place}
use Rattle.page_map.specs.Tables.{IsPointer, IsPageMap, TablesOnce, has_table, has_page, table_of}
use Rattle.page_map.specs.Changes.{mapped, CanMap}
use Rattle.page_map.specs.Walks.{FaultsIn, SameElsewhere}
use Rattle.page_map.proofs.WalkLemmas.{last_invalid, last_refused, by_table, no_entry, walk_same, vpn_1-below, other_place}
use Rattle.page_map.proofs.KeptLemmas.{unrefused_table, pointer_at, pointer-points, root_stays}

-- the table of an address, with a word at the address's place
module _ (mem : Mem) (root frames va value : ℕ) (k : IsPageMap mem root frames) (table : has_table mem root va ≡ true) where
  -- the root's entry for an address in the page is as it was
  pub first_in : (at : ℕ) → at / 4096 ≡ va / 4096
      → first_entry (written mem (table_of mem root va) (vpn_0 va) value) root at ≡ first_entry mem root va
  first_in at same =
      root_stays mem root frames va k table (vpn_0 va) value (vpn_1 at) ∙ ap (λ (i : ℕ). word mem root i) (same_region at va same)

  -- and its table's entry is the word
  pub second_in : (at : ℕ) → at / 4096 ≡ va / 4096
      → second_entry (written mem (table_of mem root va) (vpn_0 va) value) root at ≡ value
  second_in at same =
      let new : Mem = written mem (table_of mem root va) (vpn_0 va) value in
      ap (λ (e : ℕ). word new (ppn e) (vpn_0 at)) (first_in at same)
      ∙ ap (λ (i : ℕ). word new (table_of mem root va) i) (same_place at va same)
      ∙ word-written_same mem (table_of mem root va) (vpn_0 va) value

  pub points_in : (at : ℕ) → at / 4096 ≡ va / 4096
      → Points (first_entry (written mem (table_of mem root va) (vpn_0 va) value) root at)
  points_in at same =
      subst Points (sym (first_in at same)) (pointer-points (first_entry mem root va) root frames (pointer_at mem root frames va k table))

  pub table_in : (at : ℕ) → at / 4096 ≡ va / 4096
      → ppn (first_entry (written mem (table_of mem root va) (vpn_0 va) value) root at) < frames
  table_in at same =
      let p : IsPointer (first_entry mem root va) root frames = pointer_at mem root frames va k table in
      subst (λ (e : ℕ). ppn e < frames) (sym (first_in at same)) p.in_memory

  -- a walk in the page ends as at the word
  pub ends_at : (at : ℕ) (access : Access) → at / 4096 ≡ va / 4096
      → (walk (written mem (table_of mem root va) (vpn_0 va) value) frames root at access).result ≡ last_level frames access value
  ends_at at access same =
      by_table (written mem (table_of mem root va) (vpn_0 va) value) frames root at access k.in_memory
      (points_in at same) (table_in at same)
      ∙ ap (last_level frames access) (second_in at same)

  -- an address of another page has another entry
  other_entry : (at : ℕ) → TablesOnce mem root → at < 2 ^ 32 → va < 2 ^ 32 → at / 4096 ≢ va / 4096
      → has_table mem root at ≡ true
      → word (written mem (table_of mem root va) (vpn_0 va) value) (table_of mem root at) (vpn_0 at)
      ≡ word mem (table_of mem root at) (vpn_0 at)
  other_entry at o at_fits fits apart at_table = elim (cases_eq (vpn_1 at) (vpn_1 va)) [
    | inl region ↦
        let same_table : table_of mem root at ≡ table_of mem root va = ap (λ (i : ℕ). ppn (word mem root i)) region in
        ap (λ (t : ℕ). word (written mem (table_of mem root va) (vpn_0 va) value) t (vpn_0 at)) same_table
        ∙ word-written_place mem (table_of mem root va) (vpn_0 va) value (vpn_0 at) (other_place at va at_fits fits apart region)
        ∙ ap (λ (t : ℕ). word mem t (vpn_0 at)) (sym same_table)
    | inr region ↦
        word-written_frame mem (table_of mem root va) (vpn_0 va) value (table_of mem root at) (vpn_0 at)
        (λ e. region (o.once (vpn_1 at) (vpn_1 va) (vpn_1-below at) (vpn_1-below va) at_table table e))
  ]

  pub page_elsewhere : TablesOnce mem root
      → SameElsewhere 4096 va mem (written mem (table_of mem root va) (vpn_0 va) value) frames root
  page_elsewhere o = record {
    each = λ at access at_fits fits apart.
        let new : Mem = written mem (table_of mem root va) (vpn_0 va) value in
        let first : first_entry new root at ≡ first_entry mem root at = root_stays mem root frames va k table (vpn_0 va) value (vpn_1 at) in
        elim (cases_Bool (has_table mem root at)) [
          | inl at_table ↦
              walk_same mem new frames root at access k.in_memory first (other_entry at o at_fits fits apart at_table)
          | inr none ↦
              no_entry new frames root at access k.in_memory (ap valid first ∙ none)
              ∙ sym (no_entry mem frames root at access k.in_memory none)
        ];
  }

  pub cleared_fault : value ≡ 0
      → FaultsIn 4096 va (written mem (table_of mem root va) (vpn_0 va) value) frames root
  cleared_fault zero = record {
    each = λ at access same. ends_at at access same ∙ last_invalid frames access value (ap valid zero ∙ valid-zero);
  }

  table_true : (t v : Bool) → t ≡ true → t && v ≡ v
  table_true true v e = refl
  table_true false v e = absurd (cc)

  -- whether the page is there
  pub page_by : has_page (written mem (table_of mem root va) (vpn_0 va) value) root va ≡ valid value
  page_by =
      table_true _ _ (ap valid (first_in va refl) ∙ table) ∙ ap valid (second_in va refl)

-- ---- a page that was mapped

module _ (mem : Mem) (root frames va frame rights at : ℕ) (access : Access) (can : CanMap mem root frames va frame rights) where
  pub mapped_fault : at / 4096 ≡ va / 4096 → rights_permit rights access ≡ false
      → (walk (mapped mem root va frame rights) frames root at access).result ≡ Err fault.Page
  mapped_fault same refused =
      ends_at mem root frames va (leaf_word frame rights) can.tables (unrefused_table mem root va can.allowed) at access same
      ∙ last_refused frames access (leaf_word frame rights) (refuses-leaf frame rights access can.rights_are_good refused)

  pub mapped_leaf : at / 4096 ≡ va / 4096 → rights_permit rights access ≡ true
      → (walk (mapped mem root va frame rights) frames root at access).result ≡ Ok (leaf_word frame rights)
  mapped_leaf same given =
      let has : has_table mem root va ≡ true = unrefused_table mem root va can.allowed in
      let second : second_entry (mapped mem root va frame rights) root at ≡ leaf_word frame rights =
      second_in mem root frames va (leaf_word frame rights) can.tables has at same in
      let in_page : InPage (mapped mem root va frame rights) frames root at access = record {
        in_root = can.tables.in_memory;
        pointer = points_in mem root frames va (leaf_word frame rights) can.tables has at same;
        in_table = table_in mem root frames va (leaf_word frame rights) can.tables has at same;
        allowed = subst (Allows access) (sym second) (allows-leaf frame rights access can.rights_are_good given);
      } in
      let named : ppn (second_entry (mapped mem root va frame rights) root at) ≡ frame =
      ap ppn second ∙ ppn-leaf frame rights can.rights_are_good in
      (leaf_in_words (mapped mem root va frame rights) frames root at access (leaf_word frame rights)).1
      (small in_page (subst (λ (f : ℕ). f < frames) (sym named) can.in_memory) (sym second))
