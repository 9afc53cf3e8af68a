-- For the tests: what their memory is after each call: from a frame on all are blank and no tables.
use Rattle.std.proofs.Common.{arith, ◌≡◌, ◌≢◌, ◌∙◌, sym, ap, subst, ℕ, ◌+◌, ◌<◌, ◌≤◌, true, inl, inr, Some, [], ◌∷◌}
use Rattle.std.proofs.lemmas.Bool.{cases_eq}
use Rattle.std.specs.Prelude.{None, Result, Ok, Err, IfOk, IfErr, slice_get}
use Rattle.tp_base.specs.Table.{empty}
use Rattle.tp_base.specs.Rights.{are_good}
use Rattle.frame_colours.specs.Colours.{pool, whole_of, share_of}
use Rattle.frame_colours.specs.FreeList.{FreeList, all_free}
use Rattle.phys_mem.specs.Contents.{Contents, zeroed}
use Rattle.phys_mem.specs.Mem.{Mem, word, zeroed_frame, word-empty, word-written_frame, word-zeroed_same, word-zeroed_other}
use Rattle.phys_mem.specs.Holds.{Holds}
use Rattle.phys_mem.proofs.HoldsLemmas.{holds-zeroed}
use Rattle.sv32_walk.specs.PageTableEntry.{ppn, vpn_0, vpn_1, table_word, leaf_word}
use Rattle.sv32_walk.proofs.WordLemmas.{ppn-table, valid-leaf}
use Rattle.page_map.specs.declared.refusal.MapRefusal.{MapRefusal}
use Rattle.page_map.specs.Tables.{IsPageMap, IsBlank, StandsWith, has_table, has_page, table_of, map_refusal}
use Rattle.page_map.specs.Reached.{TablesIn, IsApart}
use Rattle.page_map.specs.Changes.{mapped, installed}
use Rattle.page_map.proofs.WalkLemmas.{vpn_1-below}
use Rattle.page_map.proofs.KeptLemmas.{unrefused_table, table_kept, root_kept, pointer-table, blank_tables}
use Rattle.page_map.proofs.PageLemmas.{page_by}
use Rattle.page_map.proofs.RegionLemmas.{table_there}
use Rattle.page_map.proofs.ReachLemmas.{table_tables, root_tables, blank_in}

-- page tables, and no table nor word from the next frame on
abbrev pub Ready : ℕ → ℕ → ℕ → Mem → Type 0
Ready root frames next m =
    IsPageMap m root frames × (TablesIn (λ table. table < next) m root × ((f : ℕ) → next ≤ f → IsBlank m f))

-- of 64 frames in four colours, the least of the third colour
pub least_of : (list : FreeList) → list ≡ all_free (share_of (whole_of 64 4) (2 ∷ []))
    → slice_get list.free 0 ≡ Some 2
unfolding pool
least_of list is = ap (λ (l : FreeList). slice_get l.free 0) is

-- the root's frame was zeroed in a memory that read zero
blank_zeroed : (root f : ℕ) → IsBlank (zeroed_frame empty root) f
blank_zeroed root f = record {
  zero = λ i below. elim (cases_eq f root) [
    | inl same ↦ ap (λ (g : ℕ). word (zeroed_frame empty root) g i) same ∙ word-zeroed_same empty root i
    | inr other ↦ word-zeroed_other empty root f i other ∙ word-empty f i
  ];
}

pub ready_new : (memory : Contents) (root : ℕ) → memory.frames ≡ 64 → root ≡ 2 → Holds memory empty
    → StandsWith (zeroed memory root) (Ready root memory.frames 3)
ready_new memory root size root_is holds =
    let m : Mem = zeroed_frame empty root in
    let in_memory : root < memory.frames = omega (arith, size, root_is) in
    record {
      mem = m;
      holds = holds-zeroed memory empty root in_memory holds;
      so = (
        blank_tables m root (blank_zeroed root root) memory.frames in_memory,
        ((blank_in (λ table. table < 3) m root (blank_zeroed root root)).tables, λ f past. blank_zeroed root f),
      );
    }

module _ (memory : Contents) (root next : ℕ) (size : memory.frames ≡ 64) (root_is : root ≡ 2) (past : 2 < next) (few : next < 60)
    (b : StandsWith memory (Ready root memory.frames next)) where
  later : TablesIn (λ table. table < next + 1) b.mem root
  later = record {
    each = λ i below is_valid. let t : ppn (word b.mem root i) < next = b.so.1.0.each i below is_valid in omega arith;
  }

  ready_later : StandsWith memory (Ready root memory.frames (next + 1))
  ready_later = record { mem = b.mem; holds = b.holds; so = (b.so.0, (later, λ f above. b.so.1.1 f (omega arith))) }

  apart : IsApart b.mem root next
  apart = record {
    no_root = λ e. absurd (omega (arith, e, root_is));
    no_table = record {
      unnamed = λ i below is_valid e. let t : ppn (word b.mem root i) < next = b.so.1.0.each i below is_valid in absurd (omega arith);
    };
  }

  pub ready_apart : StandsWith memory (λ m. IsApart m root next)
  ready_apart = record { mem = b.mem; holds = b.holds; so = apart }

  module _ (new : Contents) (va : ℕ) (frames : new.frames ≡ memory.frames) where
    ready_installed : Holds new (installed b.mem root va next)
        → StandsWith new (Ready root new.frames (next + 1))
    ready_installed holds = record {
      mem = installed b.mem root va next;
      holds = holds;
      so = (
        subst (λ (n : ℕ). IsPageMap (installed b.mem root va next) root n) (sym frames)
            (root_kept b.mem root (vpn_1 va) (table_word next) memory.frames
            (λ _. pointer-table next root memory.frames (omega (arith, size)) apart.no_root) b.so.0),
        (
          root_tables b.mem root memory.frames (vpn_1 va) (table_word next) b.so.0 (λ table. table < next + 1)
              (λ _. let named : ppn (table_word next) ≡ next = ppn-table next in omega arith) later,
          λ f above.
              let other : f ≢ root = λ e. absurd (omega (arith, e, root_is)) in
              let old : IsBlank b.mem f = b.so.1.1 f (omega arith) in
              record { zero = λ i below. word-written_frame b.mem root (vpn_1 va) (table_word next) f i other ∙ old.zero i below },
        ),
      );
    }

    ready_mapped : (rights : ℕ) → map_refusal b.mem root va ≡ None
        → Holds new (mapped b.mem root va next rights)
        → StandsWith new (Ready root new.frames next)
    ready_mapped rights allowed holds =
        let table : has_table b.mem root va ≡ true = unrefused_table b.mem root va allowed in
        let low : table_of b.mem root va < next = b.so.1.0.each (vpn_1 va) (vpn_1-below va) table in
        record {
          mem = mapped b.mem root va next rights;
          holds = holds;
          so = (
            subst (λ (n : ℕ). IsPageMap (mapped b.mem root va next rights) root n) (sym frames)
                (table_kept b.mem root memory.frames va (leaf_word next rights) (vpn_0 va) b.so.0 table),
            (
              table_tables b.mem root memory.frames va (leaf_word next rights) b.so.0 table (λ t. t < next) b.so.1.0,
              λ f above.
                  let other : f ≢ table_of b.mem root va = λ e. absurd (omega (arith, e, low)) in
                  let old : IsBlank b.mem f = b.so.1.1 f above in
                  record {
                    zero = λ i below.
                        word-written_frame b.mem (table_of b.mem root va) (vpn_0 va) (leaf_word next rights) f i other ∙ old.zero i below;
                  },
            ),
          );
        }

    pub after_install : (result : Result ℕ MapRefusal) → IfErr result (λ _. new ≡ memory)
        → IfOk result (λ _. Holds new (installed b.mem root va next)) → StandsWith new (Ready root new.frames (next + 1))
    after_install (Ok at) unchanged holds = ready_installed holds
    after_install (Err e) unchanged holds =
        subst (λ (m : Contents). StandsWith m (Ready root m.frames (next + 1))) (sym unchanged) ready_later

    pub there_after_install : (result : Result ℕ MapRefusal)
        → IfOk result (λ _. Holds new (installed b.mem root va next))
        → IfOk result (λ _. StandsWith new (λ m. has_table m root va ≡ true))
    there_after_install (Ok at) holds = record {
      mem = installed b.mem root va next;
      holds = holds;
      so = table_there b.mem root memory.frames va next b.so.0;
    }
    there_after_install (Err e) holds = tt

    pub after_map : (rights : ℕ) (result : Result ℕ MapRefusal) → IfErr result (λ _. new ≡ memory)
        → IfOk result (λ _. map_refusal b.mem root va ≡ None) → IfOk result (λ _. Holds new (mapped b.mem root va next rights))
        → StandsWith new (Ready root new.frames next)
    after_map rights (Ok at) unchanged allowed holds = ready_mapped rights allowed holds
    after_map rights (Err e) unchanged allowed holds =
        subst (λ (m : Contents). StandsWith m (Ready root m.frames next)) (sym unchanged) b

    pub there_after_map : (rights : ℕ) → are_good rights ≡ true → (result : Result ℕ MapRefusal)
        → IfOk result (λ _. map_refusal b.mem root va ≡ None) → IfOk result (λ _. Holds new (mapped b.mem root va next rights))
        → IfOk result (λ _. StandsWith new (λ m. has_page m root va ≡ true))
    there_after_map rights is_good (Ok at) allowed holds = record {
      mem = mapped b.mem root va next rights;
      holds = holds;
      so =
          page_by b.mem root memory.frames va (leaf_word next rights) b.so.0 (unrefused_table b.mem root va allowed)
          ∙ valid-leaf next rights is_good;
    }
    there_after_map rights is_good (Err e) allowed holds = tt
