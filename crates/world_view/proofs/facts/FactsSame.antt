-- The facts of a domain's frames and page tables speak of its own frames alone: where these are as they were, they hold.
use Rattle.std.proofs.Common.{◌≡◌, ℕ, Bool, true, Option, Some, None, ap, sym, subst, ◌∙◌}
use Rattle.tp_base.specs.Table.{at}
use Rattle.phys_mem.specs.Mem.{Mem, Frame, frame_at, word}
use Rattle.sv32_walk.specs.PageTableEntry.{valid}
use Rattle.call_table.specs.Claims.{Claim, Claims, frame_of, IsTable, IsLeaf, IsMapped, Facts}

module _ (root : ℕ) (own : ℕ → Bool) (k : Claims) (m n : Mem) (h : Facts root own k m)
    (same : (f : ℕ) → own f ≡ true → frame_at n f ≡ frame_at m f) where
  same_word : (f i : ℕ) → own f ≡ true → word n f i ≡ word m f i
  unfolding word
  same_word f i is = ap (λ (x : Frame). at 0 x i) (same f is)

  own_root : own root ≡ true
  unfolding frame_of
  own_root = h.owned h.root_slot root (ap frame_of h.root_is)

  own_table : (i f : ℕ) (r : Option ℕ) → k i ≡ Claim.Directory f r → own f ≡ true
  unfolding frame_of
  own_table i f r e = h.owned i f (ap frame_of e)

  same_mapped : (g r t : ℕ) → IsMapped k m g r t → IsMapped k n g r t
  same_mapped g r t x = record {
    slot = x.slot;
    frame = x.frame;
    rights = x.rights;
    claim = x.claim;
    good = x.good;
    entry_is = same_word x.frame t (own_table x.slot x.frame (Some r) x.claim) ∙ x.entry_is;
  }

  pub facts_same : Facts root own k n
  facts_same = record {
    root_slot = h.root_slot;
    root_is = h.root_is;
    owned = h.owned;
    apart = h.apart;
    once = h.once;
    tables = λ r. subst (λ (w : ℕ). valid w ≡ true → IsTable k w r) (sym (same_word root r own_root)) (h.tables r);
    leaves =
        λ i f r t e. subst (λ (w : ℕ). valid w ≡ true → IsLeaf k w r t)
        (sym (same_word f t (own_table i f (Some r) e))) (h.leaves i f r t e);
    installed = λ i f r e. same_word root r own_root ∙ h.installed i f r e;
    mapped = λ i b g r t e. same_mapped g r t (h.mapped i b g r t e);
    blank = λ i f e t. same_word f t (own_table i f None e) ∙ h.blank i f e t;
  }
