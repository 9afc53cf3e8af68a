-- Leaves that are cleared one after another: what is cleared so far, and what is left.
use Rattle.std.proofs.Common.{◌≡◌, ◌∙◌, ap, sym, subst, refl, ℕ, ◌+◌, ◌<◌, ◌≤◌, List, [], ◌∷◌, ◌++◌, length, take, drop, get_or, Option, None}
use Rattle.std.specs.Prelude.{slice_set}
use Rattle.std.proofs.lemmas.List.{drop_more, take_more_set, append_assoc}
use Rattle.std.proofs.Math.ListN.{drop_of_length-le}
use Rattle.tp_base.specs.Act.{go_on, ◌>>=◌, ◌>>◌, give}
use Rattle.phys_mem.specs.Contents.{Contents}
use Rattle.phys_mem.specs.Mem.{Mem}
use Rattle.phys_mem.specs.Holds.{Holds}
use Rattle.page_map.specs.Tables.{StandsWith}
use Rattle.page_map.specs.Changes.{page_entry, unmapped, CanUnmap}
use Rattle.kernel_clone.specs.Models.{work_model}
use Rattle.kernel_clone.specs.declared.Work.{Work}
use Rattle.call_table.specs.Calls.{zeroed_in, entries_in, work_of, unmap_at, unmap_all}
use Rattle.kernel_call.specs.Entries.{Leaves, CanUnmapAll}

-- the first i of the leaves are cleared, from a memory m on
pub record Clearing (root : ℕ) (vas : List ℕ) (i : ℕ) (m : Mem) (now : Contents) (entries : List ℕ) : Type 0 where
  pub mem : Mem
  pub holds : Holds now mem
  pub left : (unmap_all root (drop i vas) mem).state ≡ (unmap_all root vas m).state
  pub told : take i entries ++ entries_in (unmap_all root (drop i vas) mem).notes
      ≡ entries_in (unmap_all root vas m).notes

-- the others can be
abbrev pub CanClearLeft : ℕ → List ℕ → ℕ → Contents → Type 0
CanClearLeft root vas i now = StandsWith now (λ m. CanUnmapAll m root now.frames (drop i vas))

pub clearing_starts : (root : ℕ) (vas : List ℕ) (m : Mem) (now : Contents) (entries : List ℕ) → Holds now m
    → Clearing root vas 0 m now entries
clearing_starts root vas m now entries holds = record { mem = m; holds = holds; left = refl; told = refl }

append_nil : (xs : List ℕ) → xs ++ [] ≡ xs
append_nil [] = refl
append_nil (x ∷ xs) = ap (λ ys. x ∷ ys) (append_nil xs)

no_frame : (root : ℕ) (vas : List ℕ) (m : Mem) → zeroed_in (unmap_all root vas m).notes ≡ None
unfolding unmap_all unmap_at give zeroed_in ◌>>◌ ◌>>=◌ go_on
no_frame root [] m = refl
no_frame root (va ∷ vas) m = no_frame root vas (unmapped m root va)

module _ (root : ℕ) (vas : List ℕ) (i : ℕ) where
  -- the entries that are written
  abbrev written : Mem → List ℕ → List ℕ
  written m vs = entries_in (unmap_all root vs m).notes

  module _ (below : i < length vas) where
    next_can : (now : Contents) → CanClearLeft root vas i now
        → StandsWith now (λ m. CanUnmap m root now.frames (get_or vas i 0))
    next_can now can = record {
      mem = can.mem;
      holds = can.holds;
      so = (subst (λ (vs : List ℕ). CanUnmapAll can.mem root now.frames vs) (drop_more vas i 0 below) can.so).0;
    }

    pub next_tables : (now : Contents) (va : ℕ) → va ≡ get_or vas i 0 → CanClearLeft root vas i now
        → StandsWith now (λ m. CanUnmap m root now.frames va)
    next_tables now va is can = subst (λ (va : ℕ). StandsWith now (λ m. CanUnmap m root now.frames va)) (sym is) (next_can now can)

    pub can_go_on : (now next : Contents) (va : ℕ) → va ≡ get_or vas i 0 → next.frames ≡ now.frames
        → ((m : Mem) → Holds now m → Holds next (unmapped m root va)) → CanClearLeft root vas i now → CanClearLeft root vas (i + 1) next
    can_go_on now next va is frames clears can = record {
      mem = unmapped can.mem root va;
      holds = clears can.mem can.holds;
      so = subst (λ (n : ℕ). CanUnmapAll (unmapped can.mem root va) root n (drop (i + 1) vas)) (sym frames)
          (subst (λ (va : ℕ). CanUnmapAll (unmapped can.mem root va) root now.frames (drop (i + 1) vas)) (sym is)
          (subst (λ (vs : List ℕ). CanUnmapAll can.mem root now.frames vs) (drop_more vas i 0 below) can.so).1);
    }

    pub clearing_goes_on : (m : Mem) (now next : Contents) (entries : List ℕ) (va at : ℕ)
        → va ≡ get_or vas i 0 → i < length entries
        → ((m : Mem) → Holds now m → at ≡ page_entry m root va) → ((m : Mem) → Holds now m → Holds next (unmapped m root va))
        → Clearing root vas i m now entries → Clearing root vas (i + 1) m next (slice_set entries i at)
    unfolding unmap_all unmap_at entries_in ◌>>◌ ◌>>=◌ go_on
    clearing_goes_on m now next entries va at is within place clears c =
        let split : drop i vas ≡ va ∷ drop (i + 1) vas = drop_more vas i 0 below ∙ ap (λ (v : ℕ). v ∷ drop (i + 1) vas) (sym is) in
        record {
          mem = unmapped c.mem root va;
          holds = clears c.mem c.holds;
          left = sym (ap (λ (vs : List ℕ). (unmap_all root vs c.mem).state) split) ∙ c.left;
          told =
              ap (λ (es : List ℕ). es ++ written (unmapped c.mem root va) (drop (i + 1) vas)) (take_more_set entries i at within)
              ∙ append_assoc (take i entries) (at ∷ []) (written (unmapped c.mem root va) (drop (i + 1) vas))
              ∙ ap (λ (n : ℕ). take i entries ++ n ∷ written (unmapped c.mem root va) (drop (i + 1) vas)) (place c.mem c.holds)
              ∙ ap (λ (vs : List ℕ). take i entries ++ written c.mem vs) (sym split)
              ∙ c.told;
        }

  -- all of them
  pub clearing_ends : (m : Mem) (now : Contents) (entries : List ℕ) (work : Work) → length vas ≤ i
      → work_model work ≡ record { op = 8; zeroed = None; entries = take i entries } → Clearing root vas i m now entries
      → Leaves 8 now work (unmap_all root vas m)
  unfolding unmap_all give entries_in work_of
  clearing_ends m now entries work past told c =
      let none : drop i vas ≡ [] = drop_of_length-le vas past in
      record {
        holds = subst (Holds now) (sym (ap (λ (vs : List ℕ). (unmap_all root vs c.mem).state) none) ∙ c.left) c.holds;
        told = told
            ∙ ap (λ (es : List ℕ). record { op = 8; zeroed = None; entries = es })
            (sym (append_nil (take i entries)) ∙ ap (λ (vs : List ℕ). take i entries ++ written c.mem vs) (sym none) ∙ c.told)
            ∙ ap (λ (z : Option ℕ). record { op = 8; zeroed = z; entries = written m vas }) (sym (no_frame root vas m));
      }
