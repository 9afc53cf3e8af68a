-- What walks come to after an entry of the root was written or cleared.
use Rattle.std.proofs.Common.{arith, ◌≡◌, ◌≢◌, ◌∙◌, ap, sym, subst, refl, inl, inr, ℕ, ◌/◌, ◌^◌, ◌<◌, true, false}
use Rattle.std.proofs.lemmas.Bool.{cases_eq, cases_Bool}
use Rattle.std.specs.Prelude.{Err}
use Rattle.phys_mem.specs.Mem.{Mem, word, written, word-written_same, word-written_place, word-written_frame}
use Rattle.sv32_walk.specs.declared.access.Access.{Access}
use Rattle.sv32_walk.specs.declared.access.WalkFault.TheVariants as fault
use Rattle.sv32_walk.specs.PageTableEntry.{valid, ppn, vpn_0, vpn_1, table_word}
use Rattle.sv32_walk.specs.Walk.{Walk, walk}
use Rattle.sv32_walk.specs.Translation.{first_entry, second_entry, Points}
use Rattle.page_map.specs.Tables.{IsPointer, IsPageMap, has_table, table_of}
use Rattle.page_map.specs.Changes.{installed, uninstalled, CanInstall}
use Rattle.sv32_walk.proofs.WordLemmas.{ppn-table, points-table}
use Rattle.page_map.specs.Walks.{FaultsIn, SameElsewhere}
use Rattle.page_map.proofs.WalkLemmas.{last_invalid, by_table, no_entry, walk_same, vpn_1-below, vpn_0-below}
use Rattle.page_map.proofs.KeptLemmas.{uninstalled_yet, not_valid}

region_is : (at va : ℕ) → at / 4194304 ≡ va / 4194304 → vpn_1 at ≡ vpn_1 va
unfolding vpn_1
region_is at va e = omega arith

other_region : (at va : ℕ) → at < 2 ^ 32 → va < 2 ^ 32 → at / 4194304 ≢ va / 4194304 → vpn_1 at ≢ vpn_1 va
unfolding vpn_1
other_region at va at_fits fits apart e = apart (omega arith)

module _ (mem : Mem) (root frames va value : ℕ) (k : IsPageMap mem root frames) where
  -- an address of another region
  elsewhere : (at : ℕ) (access : Access) → vpn_1 at ≢ vpn_1 va
      → walk (written mem root (vpn_1 va) value) frames root at access ≡ walk mem frames root at access
  elsewhere at access apart =
      let new : Mem = written mem root (vpn_1 va) value in
      let first : first_entry new root at ≡ first_entry mem root at = word-written_place mem root (vpn_1 va) value (vpn_1 at) apart in
      elim (cases_Bool (has_table mem root at)) [
        | inl table ↦
            let p : IsPointer (first_entry mem root at) root frames = k.tables (vpn_1 at) (vpn_1-below at) table in
            walk_same mem new frames root at access k.in_memory first
            (word-written_frame mem root (vpn_1 va) value (table_of mem root at) (vpn_0 at) p.apart)
        | inr none ↦
            no_entry new frames root at access k.in_memory (ap valid first ∙ none)
            ∙ sym (no_entry mem frames root at access k.in_memory none)
      ]

  pub region_elsewhere : SameElsewhere 4194304 va mem (written mem root (vpn_1 va) value) frames root
  region_elsewhere = record {
    each = λ at access at_fits fits apart. elsewhere at access (other_region at va at_fits fits apart);
  }

  pub first_is : (at : ℕ) → vpn_1 at ≡ vpn_1 va
      → first_entry (written mem root (vpn_1 va) value) root at ≡ value
  first_is at same =
      ap (λ (i : ℕ). word (written mem root (vpn_1 va) value) root i) same ∙ word-written_same mem root (vpn_1 va) value

module _ (mem : Mem) (root frames va : ℕ) where
  pub table_there : (frame : ℕ) → IsPageMap mem root frames
      → has_table (installed mem root va frame) root va ≡ true
  table_there frame k =
      let p : Points (table_word frame) = points-table frame in
      ap valid (first_is mem root frames va (table_word frame) k va refl) ∙ p.is_valid

  pub table_gone : IsPageMap mem root frames → has_table (uninstalled mem root va) root va ≡ false
  table_gone k = not_valid _ (first_is mem root frames va 0 k va refl)

  pub uninstalled_fault : IsPageMap mem root frames
      → FaultsIn 4194304 va (uninstalled mem root va) frames root
  uninstalled_fault k = record {
    each = λ at access same.
        ap (λ (w : Walk). w.result) (no_entry (uninstalled mem root va) frames root at access k.in_memory
        (not_valid _ (first_is mem root frames va 0 k at (region_is at va same))));
  }

  blank_fault : (frame : ℕ) → CanInstall mem root frames va frame → (at : ℕ) (access : Access)
      → vpn_1 at ≡ vpn_1 va
      → (walk (installed mem root va frame) frames root at access).result ≡ Err fault.Page
  blank_fault frame can at access same =
      let new : Mem = installed mem root va frame in
      let first : first_entry new root at ≡ table_word frame = first_is mem root frames va (table_word frame) can.tables at same in
      let named : ppn (first_entry new root at) ≡ frame = ap ppn first ∙ ppn-table frame in
      let second : second_entry new root at ≡ 0 =
      ap (λ (f : ℕ). word new f (vpn_0 at)) named
      ∙ word-written_frame mem root (vpn_1 va) (table_word frame) frame (vpn_0 at) can.apart.no_root
      ∙ can.blank.zero (vpn_0 at) (vpn_0-below at) in
      by_table new frames root at access can.tables.in_memory (subst Points (sym first) (points-table frame))
      (subst (λ (f : ℕ). f < frames) (sym named) can.in_memory)
      ∙ last_invalid frames access (second_entry new root at) (not_valid _ second)

  pub installed_fault : (frame : ℕ) → CanInstall mem root frames va frame
      → FaultsIn 4194304 va (installed mem root va frame) frames root
  installed_fault frame can = record { each = λ at access same. blank_fault frame can at access (region_is at va same) }

  pub installed_same : (frame : ℕ) → CanInstall mem root frames va frame → (at : ℕ) (access : Access)
      → (walk (installed mem root va frame) frames root at access).result ≡ (walk mem frames root at access).result
  installed_same frame can at access = elim (cases_eq (vpn_1 at) (vpn_1 va)) [
    | inl same ↦
        let none : has_table mem root at ≡ false =
        ap (λ (i : ℕ). valid (word mem root i)) same ∙ uninstalled_yet mem root va can.allowed in
        blank_fault frame can at access same
        ∙ sym (ap (λ (w : Walk). w.result) (no_entry mem frames root at access can.tables.in_memory none))
    | inr apart ↦ ap (λ (w : Walk). w.result) (elsewhere mem root frames va (table_word frame) can.tables at access apart)
  ]
