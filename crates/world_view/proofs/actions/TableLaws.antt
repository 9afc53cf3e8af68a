-- A domain's page tables, by the facts of its frames: walks of them stay in its own frames, and come to its pages.
use Rattle.std.proofs.Common.{◌≡◌, ◌≢◌, ℕ, false, sym, ap, refl, ◌∙◌}
use Rattle.std.specs.Prelude.{◌/◌, Ok, Err, All}
use Rattle.tp_base.specs.Table.{at}
use Rattle.phys_mem.specs.Mem.{Mem, Frame, frame_at, word}
use Rattle.sv32_walk.specs.declared.access.Access.{Access}
use Rattle.sv32_walk.specs.declared.access.WalkFault.TheVariants as fault
use Rattle.sv32_walk.specs.PageTableEntry.{ppn}
use Rattle.sv32_walk.specs.Walk.{walk}
use Rattle.page_map.specs.Tables.{IsPageMap}
use Rattle.page_map.specs.Reached.{TablesIn, PagesIn, SameTables}
use Rattle.page_map.proofs.ReachedWalks.{walk_reads, walk_page, walk_inside}
use Rattle.page_map.proofs.WalkLemmas.{walk_by_tables}
use Rattle.call_table.specs.Domain.{Dom}
use Rattle.call_table.specs.Claims.{is_mine}
use Rattle.call_table.specs.Laws.{Kept, IsMine, IsPageFrame}
use Rattle.call_table.proofs.TablesMeaning.{page_tables}
use Rattle.hardware_check.specs.Hardware.{Hardware}
use Rattle.image_check.specs.Own.{Own}
use Rattle.world_view.specs.Frames.{own_frame, root_of}
use Rattle.world_view.specs.Kernel.{estate}
use Rattle.world_view.specs.Relations.{IsOwnFrame, SameFrames}
use Rattle.world_view.proofs.opening.PoolLaws.{own_inside}

-- ---- whose a frame is, to the kernel and to the machine

module _ (p : Hardware) (o : Own) (f : ℕ) where
  pub mine_own : IsMine (estate p o) f → IsOwnFrame p o f
  unfolding estate
  mine_own is = is

  pub own_mine : IsOwnFrame p o f → IsMine (estate p o) f
  unfolding estate
  own_mine is = is

  pub not_mine : own_frame p o f ≡ false → is_mine (estate p o) f ≡ false
  unfolding estate
  not_mine is = is

pub root_is : (p : Hardware) (o : Own) → (estate p o).root ≡ root_of p o
unfolding estate
root_is p o = refl

-- ---- the tables

-- what walks rely on: the root and the tables are the domain's own, and each page that is reached is such a page
pub record Walkable (p : Hardware) (o : Own) (root : ℕ) (IsPage : ℕ → Type 0) (m : Mem) : Type 0 where
  pub map : IsPageMap m root p.frames
  pub own_root : IsOwnFrame p o root
  pub tables : TablesIn (IsOwnFrame p o) m root
  pub pages : PagesIn IsPage m root

-- a frame of the domain's own that holds a page
pub record IsPage (p : Hardware) (o : Own) (d : Dom) (m : Mem) (f : ℕ) : Type 0 where
  pub own : IsOwnFrame p o f
  pub frame : IsPageFrame (estate p o) d m f

pub walkable : (p : Hardware) (o : Own) (d : Dom) (m : Mem) → Kept (estate p o) d m
    → Walkable p o (estate p o).root (IsPage p o d m) m
unfolding estate
walkable p o d m facts =
    let t = page_tables (estate p o) d m facts in
    record {
      map = t.map;
      own_root = t.root;
      tables = t.reaches.tables;
      pages = record {
        each = λ i j i_below j_below i_valid j_valid.
            let page = t.leaves.page i j i_below j_below i_valid j_valid in
            record { own = page.own; frame = page };
      };
    }

-- ---- walks

module _ (p : Hardware) (o : Own) (root : ℕ) (Page : ℕ → Type 0) (m : Mem) (w : Walkable p o root Page m) where
  same_word : (k : Mem) (f i : ℕ) → frame_at k f ≡ frame_at m f → word k f i ≡ word m f i
  unfolding word
  same_word k f i e = ap (λ (x : Frame). at 0 x i) e

  -- where all of the domain's frames are the same, so are its tables
  pub tables_of_frames : (k : Mem) → ((f : ℕ) → IsOwnFrame p o f → frame_at k f ≡ frame_at m f)
      → SameTables m k root
  tables_of_frames k same =
      let in_root : (i : ℕ) → word k root i ≡ word m root i = λ i. same_word k root i (same root w.own_root) in
      record {
        in_root = λ i below. in_root i;
        in_tables = λ i j i_below j_below is_valid.
            ap (λ (e : ℕ). word k (ppn e) j) (in_root i)
            ∙ same_word k (ppn (word m root i)) j (same (ppn (word m root i)) (w.tables.each i i_below is_valid));
      }

module _ (p : Hardware) (o : Own) (root : ℕ) (Page : ℕ → Type 0) (m : Mem) (w : Walkable p o root Page m) (va : ℕ) (a : Access) where
  -- a walk reads the domain's frames alone
  pub own_reads : All (λ at. IsOwnFrame p o (at / 4096)) (walk m p.frames root va a).reads
  own_reads = walk_reads m root p.frames w.map va a (IsOwnFrame p o) w.own_root w.tables

  -- and comes to a page of the domain
  pub own_page : (leaf : ℕ) → (walk m p.frames root va a).result ≡ Ok leaf → Page (ppn leaf)
  own_page leaf e = walk_page m root p.frames w.map va a Page w.pages leaf e

  -- within memory
  pub no_access_fault : ((f : ℕ) → Page f → IsOwnFrame p o f)
      → (walk m p.frames root va a).result ≢ Err fault.Access
  no_access_fault own =
      walk_inside m root p.frames w.map va a (record {
        each = λ i j i_below j_below i_valid j_valid. own_inside p o _ (own _ (w.pages.each i j i_below j_below i_valid j_valid));
      })

  -- so it is the same wherever these frames are
  pub walk_alike : (k : Mem) → SameFrames p o m k → walk k p.frames root va a ≡ walk m p.frames root va a
  walk_alike k same =
      walk_by_tables m k p.frames root va a w.map.in_memory
      (tables_of_frames p o root Page m w k (λ f own. sym (same f own)))
