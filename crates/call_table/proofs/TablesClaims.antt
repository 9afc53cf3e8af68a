-- What the facts of claims say: a table and a frame that stays are named by one claim alone, and entries of the page
-- tables are of frames that claims name.
use Rattle.std.proofs.Common.{◌≡◌, ◌≢◌, ◌∙◌, ap, sym, subst, inl, inr, ℕ, Bool, true, false, true≢false, Option, Some, None}
use Rattle.std.proofs.lemmas.Bool.{cases_eq}
use Rattle.phys_mem.specs.Mem.{Mem, word}
use Rattle.sv32_walk.specs.PageTableEntry.{valid, ppn, table_word}
use Rattle.sv32_walk.proofs.WordLemmas.{ppn-table, ppn-leaf, points-table}
use Rattle.page_map.specs.Reached.{leaf_at as entry_at}
use Rattle.call_table.specs.Claims.{Claim, Claims, frame_of, is_shared, IsLeaf, Facts}
use Rattle.call_table.proofs.ClaimLaws.{one_slot, not_root}

pub valid-table : (f : ℕ) → valid (table_word f) ≡ true
valid-table f = (points-table f).is_valid

region_in : Claim → Option ℕ
region_in (Claim.Directory f w) = w
region_in _ = None

pub some_same : {A : Type 0} {a b : A} → Some a ≡ Some b → a ≡ b
some_same e = cc e

module _ (root : ℕ) (own : ℕ → Bool) (k : Claims) (m : Mem) (h : Facts root own k m) where
  -- a claim that isn't shared is the only one of its frame
  pub only : (i j f : ℕ) → frame_of (k i) ≡ Some f → frame_of (k j) ≡ Some f → is_shared (k j) ≡ false → i ≡ j
  only i j f x y alone = elim (cases_eq i j) [
    | inl e ↦ e
    | inr n ↦ absurd (true≢false (sym (h.apart i j f n x y).1 ∙ alone))
  ]

  pub root_frame : frame_of (k h.root_slot) ≡ Some root
  unfolding frame_of
  root_frame = ap frame_of h.root_is

  pub root_alone : is_shared (k h.root_slot) ≡ false
  unfolding is_shared
  root_alone = ap is_shared h.root_is

  pub own_root : own root ≡ true
  own_root = h.owned h.root_slot root root_frame

  pub own_table : (i f : ℕ) (a : Option ℕ) → k i ≡ Claim.Directory f a → own f ≡ true
  unfolding frame_of
  own_table i f a x = h.owned i f (ap frame_of x)

  pub same_region : (i j f r q : ℕ) → k i ≡ Claim.Directory f (Some r) → k j ≡ Claim.Directory f (Some q)
      → r ≡ q
  unfolding region_in
  same_region i j f r q x y =
      some_same (ap region_in (sym x ∙ ap k (one_slot root own k m h i j f (Some r) (Some q) x y) ∙ y))

  -- a page's frame is no table and not one that stays
  pub leaf_no_table : (i j g : ℕ) (b : Bool) (w : Option (ℕ × ℕ)) (a : Option ℕ) → k i ≡ Claim.Leaf b g w
      → k j ≢ Claim.Directory g a
  unfolding frame_of is_shared
  leaf_no_table i j g b w a x y =
      let same : i ≡ j = only i j g (ap frame_of x) (ap frame_of y) (ap is_shared y) in
      let no : Claim.Leaf b g w ≡ Claim.Directory g a = sym x ∙ ap k same ∙ y in
      cc no

  pub leaf_not_fixed : (i j g : ℕ) (b : Bool) (w : Option (ℕ × ℕ)) → k i ≡ Claim.Leaf b g w
      → k j ≢ Claim.Fixed g
  unfolding frame_of is_shared
  leaf_not_fixed i j g b w x y =
      let same : i ≡ j = only i j g (ap frame_of x) (ap frame_of y) (ap is_shared y) in
      let no : Claim.Leaf b g w ≡ Claim.Fixed g = sym x ∙ ap k same ∙ y in
      cc no

  pub leaf_not_root : (i g : ℕ) (b : Bool) (w : Option (ℕ × ℕ)) → k i ≡ Claim.Leaf b g w → g ≢ root
  leaf_not_root i g b w x e = leaf_not_fixed i h.root_slot g b w x (h.root_is ∙ ap Claim.Fixed (sym e))

  pub own_leaf : (i g : ℕ) (b : Bool) (w : Option (ℕ × ℕ)) → k i ≡ Claim.Leaf b g w → own g ≡ true
  unfolding frame_of
  own_leaf i g b w x = h.owned i g (ap frame_of x)

  -- ---- entries

  pub table_frame : (r : ℕ) (ok : valid (word m root r) ≡ true) → ppn (word m root r) ≡ (h.tables r ok).frame
  table_frame r ok = ap ppn (h.tables r ok).entry_is ∙ ppn-table (h.tables r ok).frame

  -- the frame that a valid entry of the root names
  pub table_own : (r : ℕ) → valid (word m root r) ≡ true → own (ppn (word m root r)) ≡ true
  table_own r ok = let t = h.tables r ok in ap own (table_frame r ok) ∙ own_table t.slot t.frame (Some r) t.claim

  pub table_not_root : (r : ℕ) → valid (word m root r) ≡ true → ppn (word m root r) ≢ root
  table_not_root r ok e = let t = h.tables r ok in not_root root own k m h t.slot t.frame (Some r) t.claim (sym (table_frame r ok) ∙ e)

  pub tables_once : (r q : ℕ) → valid (word m root r) ≡ true → valid (word m root q) ≡ true
      → ppn (word m root r) ≡ ppn (word m root q) → r ≡ q
  tables_once r q r_ok q_ok e =
      let t = h.tables r r_ok in
      let u = h.tables q q_ok in
      let same : u.frame ≡ t.frame = sym (table_frame q q_ok) ∙ sym e ∙ table_frame r r_ok in
      same_region t.slot u.slot t.frame r q t.claim (subst (λ (f : ℕ). k u.slot ≡ Claim.Directory f (Some q)) same u.claim)

  -- a valid entry of such a table is a page's leaf
  pub leaf_entry : (r t : ℕ) → valid (word m root r) ≡ true → valid (entry_at m root r t) ≡ true
      → IsLeaf k (entry_at m root r t) r t
  leaf_entry r t r_ok ok =
      let d = h.tables r r_ok in
      let same : entry_at m root r t ≡ word m d.frame t = ap (λ (f : ℕ). word m f t) (table_frame r r_ok) in
      subst (λ (w : ℕ). IsLeaf k w r t) (sym same) (h.leaves d.slot d.frame r t d.claim (ap valid (sym same) ∙ ok))

  -- the frame of a page is none that the root's entries name
  pub leaf_unnamed : (i g r : ℕ) (b : Bool) (w : Option (ℕ × ℕ)) → k i ≡ Claim.Leaf b g w
      → valid (word m root r) ≡ true
      → ppn (word m root r) ≢ g
  leaf_unnamed i g r b w x ok e =
      let t = h.tables r ok in
      let same : t.frame ≡ g = sym (table_frame r ok) ∙ e in
      leaf_no_table i t.slot g b w (Some r) x (subst (λ (f : ℕ). k t.slot ≡ Claim.Directory f (Some r)) same t.claim)

pub leaf_frame : (k : Claims) (entry r t : ℕ) (l : IsLeaf k entry r t) → ppn entry ≡ l.frame
leaf_frame k entry r t l = ap ppn l.entry_is ∙ ppn-leaf l.frame l.rights l.good
