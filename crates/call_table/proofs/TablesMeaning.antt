-- What the facts of a domain mean for its page tables, and that a store into a page changes none of them.
use Rattle.std.proofs.Common.{◌≡◌, ◌∙◌, ap, sym, subst, ℕ, Bool, true, Option, Some}
use Rattle.std.proofs.lemmas.Bool.{ltb-true, and_parts}
use Rattle.phys_mem.specs.Mem.{Mem, word, written, word-written_frame}
use Rattle.sv32_walk.specs.PageTableEntry.{valid, ppn, is_leaf}
use Rattle.sv32_walk.proofs.WordLemmas.{leaf-good}
use Rattle.page_map.specs.Tables.{IsPointer}
use Rattle.page_map.specs.Reached.{leaf_at as entry_at, PagesIn}
use Rattle.page_map.proofs.KeptLemmas.{pointer-table}
use Rattle.page_map.proofs.ReachLemmas.{weaker}
use Rattle.frame_colours.specs.Colours.{IsOwn}
use Rattle.call_table.specs.Domain.{Dom}
use Rattle.call_table.specs.Claims.{Claim, Estate, is_mine, claims}
use Rattle.call_table.specs.Laws.{Kept, IsMine, IsPageFrame, HasPageTables}
use Rattle.call_table.proofs.ClaimLaws.{not_root, elsewhere}
use Rattle.call_table.proofs.TablesClaims.{own_root, own_table, own_leaf, leaf_no_table, leaf_not_fixed, leaf_not_root, leaf_unnamed, table_own, tables_once, leaf_entry, leaf_frame}

-- a frame of the domain's own is of its share
pub mine_is_own : (e : Estate) (f : ℕ) → IsMine e f → IsOwn e.share f
mine_is_own e f own = let parts = and_parts _ _ own in record { below = ltb-true f e.share.frames parts.0; coloured = parts.1 }

module _ (e : Estate) (d : Dom) (m : Mem) (h : Kept e d m) where
  -- the frame of a claimed page
  pub page_frame : (i f : ℕ) (b : Bool) (w : Option (ℕ × ℕ)) → claims e d.caps i ≡ Claim.Leaf b f w
      → IsPageFrame e d m f
  page_frame i f b w x = record {
    own = own_leaf e.root (is_mine e) (claims e d.caps) m h.facts i f b w x;
    apart = record {
      no_root = leaf_not_root e.root (is_mine e) (claims e d.caps) m h.facts i f b w x;
      no_table = record { unnamed = λ r below ok. leaf_unnamed e.root (is_mine e) (claims e d.caps) m h.facts i f r b w x ok };
    };
    no_table = λ j a. leaf_no_table e.root (is_mine e) (claims e d.caps) m h.facts i j f b w a x;
    not_fixed = λ j. leaf_not_fixed e.root (is_mine e) (claims e d.caps) m h.facts i j f b w x;
  }

  entry_page : (r t : ℕ) → valid (word m e.root r) ≡ true → valid (entry_at m e.root r t) ≡ true
      → IsPageFrame e d m (ppn (entry_at m e.root r t))
  entry_page r t r_ok ok =
      let l = leaf_entry e.root (is_mine e) (claims e d.caps) m h.facts r t r_ok ok in
      subst (IsPageFrame e d m) (sym (leaf_frame (claims e d.caps) (entry_at m e.root r t) r t l))
      (page_frame l.slot l.frame l.by_cap (Some (r, t)) l.claim)

  pages : PagesIn (IsPageFrame e d m) m e.root
  pages = record { each = λ r t r_below t_below r_ok ok. entry_page r t r_ok ok }

  entry_leaf : (r t : ℕ) → valid (word m e.root r) ≡ true → valid (entry_at m e.root r t) ≡ true
      → is_leaf (entry_at m e.root r t) ≡ true
  entry_leaf r t r_ok ok =
      let l = leaf_entry e.root (is_mine e) (claims e d.caps) m h.facts r t r_ok ok in
      ap is_leaf l.entry_is ∙ leaf-good l.frame l.rights l.good

  entry_pointer : (r : ℕ) → valid (word m e.root r) ≡ true → IsPointer (word m e.root r) e.root e.share.frames
  entry_pointer r ok =
      let t = h.facts.tables r ok in
      let own : IsMine e t.frame = own_table e.root (is_mine e) (claims e d.caps) m h.facts t.slot t.frame (Some r) t.claim in
      subst (λ (w : ℕ). IsPointer w e.root e.share.frames) (sym t.entry_is)
      (pointer-table t.frame e.root e.share.frames (mine_is_own e t.frame own).below
      (not_root e.root (is_mine e) (claims e d.caps) m h.facts t.slot t.frame (Some r) t.claim))

  pub root_mine : IsMine e e.root
  root_mine = own_root e.root (is_mine e) (claims e d.caps) m h.facts

  pub page_tables : HasPageTables e d m
  page_tables = record {
    map = record {
      in_memory = (mine_is_own e e.root root_mine).below;
      tables = λ r below ok. entry_pointer r ok;
    };
    once = record { once = λ r q r_below q_below. tables_once e.root (is_mine e) (claims e d.caps) m h.facts r q };
    root = root_mine;
    reaches = record {
      tables = record { each = λ r below ok. table_own e.root (is_mine e) (claims e d.caps) m h.facts r ok };
      pages = weaker (IsPageFrame e d m) (IsMine e) (λ f p. p.own) m e.root pages;
    };
    sealed = weaker (IsPageFrame e d m) _ (λ f p. p.apart) m e.root pages;
    leaves = record {
      leaf = λ r t r_below t_below. entry_leaf r t;
      page = λ r t r_below t_below. entry_page r t;
    };
  }

  pub stored : (f i v : ℕ) → IsPageFrame e d m f → Kept e d (written m f i v)
  stored f i v page = record {
    slots = h.slots;
    facts = elsewhere e.root (is_mine e) (claims e d.caps) m (written m f i v) h.facts f page.no_table page.apart.no_root
        (λ g u other. word-written_frame m f i v g u other);
  }
