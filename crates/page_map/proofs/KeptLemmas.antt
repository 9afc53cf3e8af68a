-- Each change keeps the facts of page tables.
use Rattle.std.proofs.Common.{◌≡◌, ◌≢◌, ◌∙◌, ap, sym, subst, refl, inl, inr, ◌⊎◌, ℕ, ◌<◌, Bool, true, false, not, cond, true≢false}
use Rattle.std.proofs.lemmas.Bool.{cases_eq}
use Rattle.std.specs.Prelude.{Some, None}
use Rattle.tp_base.specs.Table.{empty}
use Rattle.phys_mem.specs.Mem.{Mem, word, written, word-written_same, word-written_place, word-written_frame, word-empty}
use Rattle.sv32_walk.specs.PageTableEntry.{valid, ppn, vpn_1, table_word}
use Rattle.sv32_walk.specs.Translation.{first_entry, Points}
use Rattle.sv32_walk.proofs.EntryLemmas.{first_of_both}
use Rattle.sv32_walk.proofs.WordLemmas.{valid-zero, ppn-table, points-table}
use Rattle.page_map.specs.declared.refusal.MapRefusal.TheVariants as refusal
use Rattle.page_map.specs.Tables.{IsPointer, IsPageMap, TablesOnce, IsNoTable, IsBlank, has_table, has_page, table_of, map_refusal, install_refusal}
use Rattle.page_map.proofs.WalkLemmas.{vpn_1-below}

-- ---- what a word is after a write

-- the word that was written, or one as before
pub at_write : (mem : Mem) (frame place value other i : ℕ)
    → ((other ≡ frame) × (i ≡ place) × (word (written mem frame place value) other i ≡ value))
    ⊎ (word (written mem frame place value) other i ≡ word mem other i)
at_write mem frame place value other i = elim (cases_eq other frame) [
  | inl same ↦ elim (cases_eq i place) [
    | inl here ↦ inl (
      same,
      here,
      ap (λ (f : ℕ). word (written mem frame place value) f i) same
          ∙ ap (λ (p : ℕ). word (written mem frame place value) frame p) here
          ∙ word-written_same mem frame place value,
    )
    | inr apart ↦ inr (
        ap (λ (f : ℕ). word (written mem frame place value) f i) same
        ∙ word-written_place mem frame place value i apart
        ∙ ap (λ (f : ℕ). word mem f i) (sym same))
  ]
  | inr apart ↦ inr (word-written_frame mem frame place value other i apart)
]

-- ---- what the absence of a refusal says

table_of_three : (aligned page table : Bool)
    → cond (not aligned) (Some refusal.BadAddress) (cond page (Some refusal.Mapped) (cond table None (Some refusal.NoTable))) ≡ None
    → table ≡ true
table_of_three true false true e = refl
table_of_three true false false e = absurd (cc)
table_of_three true true table e = absurd (cc)
table_of_three false page table e = absurd (cc)

pub unrefused_table : (mem : Mem) (root va : ℕ) → map_refusal mem root va ≡ None
    → has_table mem root va ≡ true
unfolding map_refusal
unrefused_table mem root va e = table_of_three _ _ _ e

table_of_two : (aligned table : Bool)
    → cond (not aligned) (Some refusal.BadAddress) (cond table (Some refusal.Mapped) None) ≡ None → table ≡ false
table_of_two true true e = absurd (cc)
table_of_two true false e = refl
table_of_two false table e = absurd (cc)

pub uninstalled_yet : (mem : Mem) (root va : ℕ) → install_refusal mem root va ≡ None
    → has_table mem root va ≡ false
unfolding install_refusal
uninstalled_yet mem root va e = table_of_two _ _ e

pub page_table : (mem : Mem) (root va : ℕ) → has_page mem root va ≡ true → has_table mem root va ≡ true
page_table mem root va e = first_of_both _ _ e

-- ---- pointers

pub pointer-table : (frame root frames : ℕ) → frame < frames → frame ≢ root
    → IsPointer (table_word frame) root frames
pointer-table frame root frames within apart =
    let is : ppn (table_word frame) ≡ frame = ppn-table frame in
    record {
      pointer = ap table_word (sym is);
      in_memory = subst (λ (f : ℕ). f < frames) (sym is) within;
      apart = λ e. apart (sym is ∙ e);
    }

pub pointer-points : (entry root frames : ℕ) → IsPointer entry root frames → Points entry
pointer-points entry root frames p = subst Points (sym p.pointer) (points-table (ppn entry))

module _ (mem : Mem) (root frames va : ℕ) (k : IsPageMap mem root frames) (table : has_table mem root va ≡ true) where
  -- the pointer for an address
  pub pointer_at : IsPointer (first_entry mem root va) root frames
  pointer_at = k.tables (vpn_1 va) (vpn_1-below va) table

  -- a write to the table of an address leaves the root as it is
  pub root_stays : (place value i : ℕ)
      → word (written mem (table_of mem root va) place value) root i ≡ word mem root i
  root_stays place value i =
      let p : IsPointer (first_entry mem root va) root frames = pointer_at in
      word-written_frame mem (table_of mem root va) place value root i (λ e. p.apart (sym e))

-- ---- a root as it was

module _ (m n : Mem) (root : ℕ) (same : (i : ℕ) → i < 1024 → word n root i ≡ word m root i) where
  was_valid : (i : ℕ) → i < 1024 → valid (word n root i) ≡ true → valid (word m root i) ≡ true
  was_valid i below is_valid = ap valid (sym (same i below)) ∙ is_valid

  pub kept_by : (frames : ℕ) → IsPageMap m root frames → IsPageMap n root frames
  kept_by frames k = record {
    in_memory = k.in_memory;
    tables = λ i below is_valid.
        subst (λ (e : ℕ). IsPointer e root frames) (sym (same i below)) (k.tables i below (was_valid i below is_valid));
  }

  pub once_by : TablesOnce m root → TablesOnce n root
  once_by o = record {
    once = λ i j i_below j_below i_valid j_valid e.
        o.once i j i_below j_below (was_valid i i_below i_valid) (was_valid j j_below j_valid)
        (ap ppn (sym (same i i_below)) ∙ e ∙ ap ppn (same j j_below));
  }

-- ---- a word in the table of an address

module _ (mem : Mem) (root frames va value place : ℕ) (k : IsPageMap mem root frames) (table : has_table mem root va ≡ true) where
  pub table_kept : IsPageMap (written mem (table_of mem root va) place value) root frames
  table_kept =
      kept_by mem (written mem (table_of mem root va) place value) root
      (λ i below. root_stays mem root frames va k table place value i) frames k

  pub table_once : TablesOnce mem root → TablesOnce (written mem (table_of mem root va) place value) root
  table_once o =
      once_by mem (written mem (table_of mem root va) place value) root
      (λ i below. root_stays mem root frames va k table place value i) o

-- ---- a word in the root

-- the entries of the root after one was written
pub data RootAt (mem : Mem) (root place value i : ℕ) : Type 0 where
  here : i ≡ place → word (written mem root place value) root i ≡ value → RootAt mem root place value i
  there : i ≢ place → word (written mem root place value) root i ≡ word mem root i
      → RootAt mem root place value i

pub root_at : (mem : Mem) (root place value i : ℕ) → RootAt mem root place value i
root_at mem root place value i = elim (cases_eq i place) [
  | inl same ↦ here same
      (ap (λ (p : ℕ). word (written mem root place value) root p) same ∙ word-written_same mem root place value)
  | inr apart ↦ there apart (word-written_place mem root place value i apart)
]

abbrev pub new_root : Mem → ℕ → ℕ → ℕ → ℕ → ℕ
new_root mem root place value i = word (written mem root place value) root i

module _ (mem : Mem) (root place value : ℕ) where
  abbrev new : ℕ → ℕ
  new i = new_root mem root place value i

  root_pointer : (frames : ℕ) → (valid value ≡ true → IsPointer value root frames) → IsPageMap mem root frames
      → (i : ℕ) → i < 1024 → RootAt mem root place value i → valid (new i) ≡ true → IsPointer (new i) root frames
  root_pointer frames given k i below (here at is) is_valid =
      subst (λ (e : ℕ). IsPointer e root frames) (sym is) (given (ap valid (sym is) ∙ is_valid))
  root_pointer frames given k i below (there at is) is_valid =
      subst (λ (e : ℕ). IsPointer e root frames) (sym is) (k.tables i below (ap valid (sym is) ∙ is_valid))

  -- a valid word points to a table
  pub root_kept : (frames : ℕ) → (valid value ≡ true → IsPointer value root frames)
      → IsPageMap mem root frames
      → IsPageMap (written mem root place value) root frames
  root_kept frames given k = record {
    in_memory = k.in_memory;
    tables = λ i below. root_pointer frames given k i below (root_at mem root place value i);
  }

  module _ (given : valid value ≡ true → IsNoTable mem root (ppn value)) (o : TablesOnce mem root) where
    -- the new word's table is none of the others
    apart_from : (i j : ℕ) → j < 1024 → new i ≡ value → new j ≡ word mem root j
        → valid (new i) ≡ true → valid (new j) ≡ true → ppn (new i) ≢ ppn (new j)
    apart_from i j j_below i_is j_is i_valid j_valid e =
        let no : IsNoTable mem root (ppn value) = given (ap valid (sym i_is) ∙ i_valid) in
        no.unnamed j j_below (ap valid (sym j_is) ∙ j_valid) (ap ppn (sym j_is) ∙ sym e ∙ ap ppn i_is)

    one_place : (i j : ℕ) → i < 1024 → j < 1024 → RootAt mem root place value i
        → RootAt mem root place value j
        → valid (new i) ≡ true → valid (new j) ≡ true → ppn (new i) ≡ ppn (new j) → i ≡ j
    one_place i j i_below j_below (here i_at i_is) (here j_at j_is) i_valid j_valid e = i_at ∙ sym j_at
    one_place i j i_below j_below (here i_at i_is) (there j_at j_is) i_valid j_valid e =
        absurd (apart_from i j j_below i_is j_is i_valid j_valid e)
    one_place i j i_below j_below (there i_at i_is) (here j_at j_is) i_valid j_valid e =
        absurd (apart_from j i i_below j_is i_is j_valid i_valid (sym e))
    one_place i j i_below j_below (there i_at i_is) (there j_at j_is) i_valid j_valid e =
        o.once i j i_below j_below (ap valid (sym i_is) ∙ i_valid) (ap valid (sym j_is) ∙ j_valid)
        (ap ppn (sym i_is) ∙ e ∙ ap ppn j_is)

    pub root_once : TablesOnce (written mem root place value) root
    root_once = record {
      once = λ i j i_below j_below.
          one_place i j i_below j_below (root_at mem root place value i) (root_at mem root place value j);
    }

-- ---- words that are zero

pub never : {A : Type 0} → valid 0 ≡ true → A
never e = absurd (true≢false (sym e ∙ valid-zero))

pub not_valid : (entry : ℕ) → entry ≡ 0 → valid entry ≡ false
not_valid entry e = ap valid e ∙ valid-zero

module _ (mem : Mem) (root : ℕ) (blank : IsBlank mem root) where
  pub none_valid : {A : Type 0} (i : ℕ) → i < 1024 → valid (word mem root i) ≡ true → A
  none_valid i below is_valid = absurd (true≢false (sym is_valid ∙ not_valid _ (blank.zero i below)))

  pub blank_tables : (frames : ℕ) → root < frames → IsPageMap mem root frames
  blank_tables frames in_memory = record {
    in_memory = in_memory;
    tables = λ i below is_valid. none_valid i below is_valid;
  }

  pub blank_once : TablesOnce mem root
  blank_once = record { once = λ i j i_below j_below i_valid j_valid e. none_valid i i_below i_valid }

  pub blank_unnamed : (frame : ℕ) → IsNoTable mem root frame
  blank_unnamed frame = record { unnamed = λ i below is_valid. none_valid i below is_valid }

pub blank_empty : (frame : ℕ) → IsBlank empty frame
blank_empty frame = record { zero = λ i below. word-empty frame i }
