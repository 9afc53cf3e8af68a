-- What DELETE and REVOKE come to: no address reaches a frame that no slot maps any more.
use Rattle.std.proofs.Common.{◌≡◌, ◌≢◌, ◌⊎◌, ◌∙◌, ap, sym, subst, refl, inl, inr, ℕ, ◌-◌, ◌<◌, ◌≤◌, Bool, true, true≢false, arith, eq-eqb, length, length-set, get_or, Option, Some, None}
use Rattle.std.proofs.lemmas.Bool.{cases_eq, cases_lt}
use Rattle.std.proofs.lemmas.List.{get_or_past}
use Rattle.phys_mem.specs.Mem.{Mem, word, word-written_same}
use Rattle.sv32_walk.specs.PageTableEntry.{valid, ppn, vpn_0, vpn_1}
use Rattle.page_map.specs.Tables.{has_table, table_of}
use Rattle.page_map.specs.Reached.{leaf_at as entry_at, PagesIn}
use Rattle.page_map.specs.Changes.{unmapped}
use Rattle.page_map.proofs.KeptLemmas.{at_write, kept_by, never}
use Rattle.page_map.proofs.ReachedWalks.{walk_page}
use Rattle.cap_table.specs.declared.Cap.{Cap}
use Rattle.cap_table.specs.declared.Cap.TheVariants as cap
use Rattle.cap_table.specs.Slots.{Slots, cap_at, with_cap, page_of, mapped_at, alike, same_number, revoked, revoked_count}
use Rattle.cap_table.proofs.RevokeLemmas.{length_revoked, after_itself, none_left}
use Rattle.call_table.specs.Domain.{Dom, replied, placed, done, with_caps}
use Rattle.call_table.specs.Claims.{Claim, Estate, is_mine, claims, claim_of, entry_places, frame_of, is_shared, leaf_at, IsEstate}
use Rattle.call_table.specs.Calls.{with_slot, clear_entry, drop_slot, delete, emptied_at, unmap_all, revoke}
use Rattle.call_table.specs.Laws.{Kept, IsUnreached, IsRevoked}
use Rattle.call_table.proofs.TablesClaims.{some_same, leaf_entry, leaf_frame}
use Rattle.call_table.proofs.TablesSlots.{claim_at, claim_within, cap_same, cap_other}
use Rattle.call_table.proofs.TablesMeaning.{page_tables}
use Rattle.call_table.proofs.RevokedSlots.{unmapped_if, by_slots, revoked_no_table, clear_same}
use Rattle.call_table.proofs.ConfinedTables.{root_stays}
use Rattle.call_table.proofs.ConfinedCalls.{Ready, ready, still_ready}
use Rattle.call_table.proofs.MeaningSteps.{Whatever, Gives, given, bind_gives, give_gives, clear_gives, unmap_all_gives, buffer_gives, check_gives, filled_gives}
use Rattle.call_table.proofs.MeaningCalls.{claim_past, claim_other}

-- some claim says that the frame is mapped at a place
pub record Claimed (e : Estate) (caps : Slots) (g r t : ℕ) : Type 0 where
  pub slot : ℕ
  pub by_cap : Bool
  pub claim : claims e caps slot ≡ Claim.Leaf by_cap g (Some (r, t))

-- the root is as it was at first, and each leaf is a claimed page's
pub record Leaves (e : Estate) (first : Mem) (x : Dom) (n : Mem) : Type 0 where
  pub ready : Ready e x n
  pub root : (r : ℕ) → word n e.root r ≡ word first e.root r
  pub leaf : (r t : ℕ) → valid (word n e.root r) ≡ true → valid (entry_at n e.root r t) ≡ true
      → Claimed e x.caps (ppn (entry_at n e.root r t)) r t

claimed_frame : (e : Estate) (caps : Slots) (f g r t : ℕ) → f ≡ g → Claimed e caps f r t
    → Claimed e caps g r t
claimed_frame e caps f g r t same c = subst (λ (n : ℕ). Claimed e caps n r t) same c

first_leaves : (e : Estate) (d : Dom) (m : Mem) → Kept e d m → Leaves e m d m
first_leaves e d m h = record {
  ready = ready e d m h;
  root = λ r. refl;
  leaf = λ r t r_ok ok.
      let l = leaf_entry e.root (is_mine e) (claims e d.caps) m h.facts r t r_ok ok in
      claimed_frame e d.caps l.frame (ppn (entry_at m e.root r t)) r t (sym (leaf_frame (claims e d.caps) (entry_at m e.root r t) r t l))
      (record { slot = l.slot; by_cap = l.by_cap; claim = l.claim });
}

pub same_place : (b b' : Bool) (f g r t q u : ℕ)
    → Claim.Leaf b f (Some (r, t)) ≡ Claim.Leaf b' g (Some (q, u)) → (r ≡ q) × (t ≡ u)
unfolding leaf_at
same_place b b' f g r t q u e =
    let pair : (r, t) ≡ (q, u) = some_same (ap leaf_at e) in
    (ap (λ (p : ℕ × ℕ). p.0) pair, ap (λ (p : ℕ × ℕ). p.1) pair)

-- ---- one slot is dropped

module _ (e : Estate) (first : Mem) (x : Dom) (n : Mem) (l : Leaves e first x n) (i : ℕ) (below : i < length x.caps) where
  -- a claim of another slot stays
  other_claim : (g r t : ℕ) (c : Claimed e x.caps g r t) → c.slot ≢ i
      → Claimed e (with_slot x i None).caps g r t
  unfolding with_caps
  other_claim g r t c other = record { slot = c.slot; by_cap = c.by_cap; claim = claim_other e x.caps i c.slot None other ∙ c.claim }

  -- the slot stands for no entry: nothing is cleared
  loose_leaves : (k : Claim) → claim_of (cap_at x.caps i) ≡ k → leaf_at k ≡ None
      → Leaves e first (with_slot x i None) n
  unfolding leaf_at
  loose_leaves k is none = record {
    ready = still_ready e x n l.ready i n (λ q. refl);
    root = l.root;
    leaf = λ r t r_ok ok.
        let c = l.leaf r t r_ok ok in
        other_claim (ppn (entry_at n e.root r t)) r t c (λ (same : c.slot ≡ i).
        let at : k ≡ Claim.Leaf c.by_cap (ppn (entry_at n e.root r t)) (Some (r, t)) =
        sym is ∙ sym (claim_within e x.caps i below) ∙ ap (claims e x.caps) (sym same) ∙ c.claim in
        let no : None ≡ Some (r, t) = sym none ∙ ap leaf_at at in
        absurd (cc no));
  }

  module _ (f rights va : ℕ) (is : cap_at x.caps i ≡ Some (cap.Frame f rights (Some va))) where
    mapped_there : has_table n e.root va ≡ true
    mapped_there = l.ready.mapped i f rights va is

    root_same : (q : ℕ) → word (unmapped n e.root va) e.root q ≡ word n e.root q
    root_same = root_stays e n va l.ready.tables mapped_there

    -- each entry is as it was, or cleared
    entry_by : (r t : ℕ)
        → (entry_at (unmapped n e.root va) e.root r t ≡ 0)
        ⊎ (entry_at (unmapped n e.root va) e.root r t ≡ entry_at n e.root r t)
    entry_by r t =
        let table : entry_at (unmapped n e.root va) e.root r t ≡ word (unmapped n e.root va) (ppn (word n e.root r)) t =
        ap (λ (w : ℕ). word (unmapped n e.root va) (ppn w) t) (root_same r) in
        elim (at_write n (table_of n e.root va) (vpn_0 va) 0 (ppn (word n e.root r)) t) [
          | inl here ↦ inl (table ∙ here.2)
          | inr there ↦ inr (table ∙ there)
        ]

    cleared : (r t : ℕ) → r ≡ vpn_1 va → t ≡ vpn_0 va → entry_at (unmapped n e.root va) e.root r t ≡ 0
    cleared r t at_root at_table =
        ap (λ (w : ℕ). word (unmapped n e.root va) (ppn w) t) (root_same r)
        ∙ ap (λ (q : ℕ). word (unmapped n e.root va) (ppn (word n e.root q)) t) at_root
        ∙ ap (λ (u : ℕ). word (unmapped n e.root va) (table_of n e.root va) u) at_table
        ∙ word-written_same n (table_of n e.root va) (vpn_0 va) 0

    unmapped_leaf : (r t : ℕ) → valid (word (unmapped n e.root va) e.root r) ≡ true
        → valid (entry_at (unmapped n e.root va) e.root r t) ≡ true
        → Claimed e (with_slot x i None).caps (ppn (entry_at (unmapped n e.root va) e.root r t)) r t
    unfolding claim_of entry_places
    unmapped_leaf r t r_ok ok = elim (entry_by r t) [
      | inl gone ↦ never (ap valid (sym gone) ∙ ok)
      | inr same ↦
          let c = l.leaf r t (ap valid (sym (root_same r)) ∙ r_ok) (ap valid (sym same) ∙ ok) in
          claimed_frame e (with_slot x i None).caps (ppn (entry_at n e.root r t))
          (ppn (entry_at (unmapped n e.root va) e.root r t)) r t (ap ppn (sym same))
          (other_claim (ppn (entry_at n e.root r t)) r t c (λ (at : c.slot ≡ i).
          let place = same_place c.by_cap true (ppn (entry_at n e.root r t)) f r t (vpn_1 va) (vpn_0 va)
          (sym c.claim ∙ ap (claims e x.caps) at ∙ claim_at e x.caps i (cap.Frame f rights (Some va)) is) in
          never (ap valid (sym (cleared r t place.0 place.1)) ∙ ok)))
    ]

    unmapped_leaves : Leaves e first (with_slot x i None) (unmapped n e.root va)
    unmapped_leaves = record {
      ready = still_ready e x n l.ready i (unmapped n e.root va) root_same;
      root = λ q. root_same q ∙ l.root q;
      leaf = unmapped_leaf;
    }

  slot_leaves : (c : Option Cap) → cap_at x.caps i ≡ c → ((f : ℕ) (w : Option ℕ) → c ≢ Some (cap.Table f w))
      → Leaves e first (with_slot x i None) (unmapped_if n e.root (mapped_at c))
  unfolding claim_of entry_places leaf_at
  slot_leaves (Some (cap.Frame f rights (Some va))) is no_table = unmapped_leaves f rights va is
  slot_leaves (Some (cap.Frame f rights None)) is no_table = loose_leaves (Claim.Leaf true f None) (ap claim_of is) refl
  slot_leaves (Some (cap.Irq line)) is no_table = loose_leaves Claim.Nothing (ap claim_of is) refl
  slot_leaves None is no_table = loose_leaves Claim.Nothing (ap claim_of is) refl
  slot_leaves (Some (cap.Table f w)) is no_table = absurd (no_table f w refl)

  dropped_leaves : ((f : ℕ) (w : Option ℕ) → cap_at x.caps i ≢ Some (cap.Table f w))
      → Leaves e first (with_slot x i None) (clear_entry e.root (cap_at x.caps i) n).state
  dropped_leaves no_table =
      subst (λ (k : Mem). Leaves e first (with_slot x i None) k) (sym (clear_same e.root (cap_at x.caps i) n no_table))
      (slot_leaves (cap_at x.caps i) refl no_table)

-- ---- a frame that no slot maps is not reached

leaf_cap : (c : Option Cap) (b : Bool) (f : ℕ) (p : ℕ × ℕ) → claim_of c ≡ Claim.Leaf b f (Some p)
    → (page_of c ≡ Some f) × (mapped_at c ≢ None)
unfolding claim_of entry_places
leaf_cap None b f p e = absurd (cc e)
leaf_cap (Some (cap.Irq line)) b f p e = absurd (cc e)
leaf_cap (Some (cap.Table g w)) b f p e = absurd (cc e)
leaf_cap (Some (cap.Frame g rights None)) b f p e = absurd (cc e)
leaf_cap (Some (cap.Frame g rights (Some va))) b f p e = (cc e, λ none. cc none)

page_claim : (c : Option Cap) (f : ℕ) → page_of c ≡ Some f
    → (frame_of (claim_of c) ≡ Some f) × (is_shared (claim_of c) ≡ true)
unfolding claim_of frame_of is_shared
page_claim None f e = absurd (cc e)
page_claim (Some (cap.Irq line)) f e = absurd (cc e)
page_claim (Some (cap.Table g w)) f e = absurd (cc e)
page_claim (Some (cap.Frame g rights w)) f e = (e, refl)

module _ (e : Estate) (d : Dom) (m : Mem) (w : IsEstate e) (h : Kept e d m) (a f : ℕ)
    (below : a < length d.caps) (named : page_of (cap_at d.caps a) ≡ Some f) where
  module _ (x : Dom) (n : Mem) (l : Leaves e m x n) (long : length x.caps ≡ length d.caps)
      (unmapped_all : (i : ℕ) → page_of (cap_at x.caps i) ≡ Some f → mapped_at (cap_at x.caps i) ≡ None) where
    not_for_good : (s : ℕ) → length d.caps ≤ s → frame_of (claims e x.caps s) ≢ Some f
    not_for_good s past is =
        let was : claims e x.caps s ≡ claims e d.caps s =
        claim_past e x.caps s (omega (arith, past, long))
        ∙ ap (λ (k : ℕ). get_or e.fixed (s - k) Claim.Nothing) long ∙ sym (claim_past e d.caps s past) in
        let own : frame_of (claims e d.caps a) ≡ Some f =
        ap frame_of (claim_within e d.caps a below) ∙ (page_claim (cap_at d.caps a) f named).0 in
        let shared : is_shared (claims e d.caps s) ≡ true = (h.facts.apart a s f (λ q. absurd (omega (arith, below, past, q))) own (ap frame_of (sym was) ∙ is)).1 in
        true≢false (sym shared ∙ ap is_shared (claim_past e d.caps s past) ∙ w.alone (s - length d.caps))

    not_claimed : (r t : ℕ) → Claimed e x.caps f r t → ⊥
    unfolding frame_of
    not_claimed r t c = elim (cases_lt c.slot (length d.caps)) [
      | inl within ↦
          let parts =
          leaf_cap (cap_at x.caps c.slot) c.by_cap f (r, t)
          (sym (claim_within e x.caps c.slot (omega (arith, within, long))) ∙ c.claim) in
          parts.1 (unmapped_all c.slot parts.0)
      | inr past ↦ not_for_good c.slot past (ap frame_of c.claim)
    ]

    abbrev IsClaimed : ℕ → Type 0
    IsClaimed g = (r : ℕ) × (t : ℕ) × Claimed e x.caps g r t

    pages : PagesIn IsClaimed n e.root
    pages = record { each = λ r t r_below t_below r_ok ok. (r, t, l.leaf r t r_ok ok) }

    unreached : IsUnreached e n f
    unreached = record {
      none = λ va leaf access is same.
          let map = kept_by m n e.root (λ r r_below. l.root r) e.share.frames (page_tables e d m h).map in
          let c = subst IsClaimed same (walk_page n e.root e.share.frames map va access IsClaimed pages leaf is) in
          not_claimed c.0 c.1 c.2;
    }

  -- ---- DELETE

  page_no_table : (c : Option Cap) → page_of c ≡ Some f → (g : ℕ) (v : Option ℕ) → c ≢ Some (cap.Table g v)
  page_no_table None e g v is = cc is
  page_no_table (Some (cap.Irq line)) e g v is = cc e
  page_no_table (Some (cap.Table g' v')) e g v is = absurd (cc e)
  page_no_table (Some (cap.Frame g' r v')) e g v is = cc is

  module _ (others : (i : ℕ) → i ≢ a → page_of (cap_at d.caps i) ≢ Some f) where
    unnamed : (i : ℕ) → page_of (cap_at (with_cap d.caps a None) i) ≢ Some f
    unnamed i is = elim (cases_eq i a) [
      | inl same ↦
          let none : cap_at (with_cap d.caps a None) i ≡ None =
          ap (λ (j : ℕ). cap_at (with_cap d.caps a None) j) same ∙ cap_same d.caps a None below in
          let no : None ≡ Some f = ap page_of (sym none) ∙ is in
          cc no
      | inr other ↦ others i other (ap page_of (sym (cap_other d.caps a i None other)) ∙ is)
    ]

    abbrev Unreached : Dom → Mem → Type 0
    Unreached x n = IsUnreached e n f

    drop_unreached : (k : Mem) → Leaves e m (with_slot d a None) k → IsUnreached e k f
    unfolding with_caps
    drop_unreached k l = unreached (with_slot d a None) k l (length-set d.caps a None) (λ i is. absurd (unnamed i is))

    delete_unreached : Gives Whatever Unreached (delete e d a m)
    unfolding delete drop_slot
    delete_unreached =
        filled_gives Whatever Unreached m d (λ _. tt) a _ (λ _ c is.
        check_gives Whatever Unreached m d (λ _. tt) 12 _ _ (λ _.
        bind_gives Whatever Unreached Unreached (drop_slot e a d) _ m
        (clear_gives Whatever Unreached m e.root (cap_at d.caps a) _ (give_gives Whatever Unreached _ _
        (drop_unreached _ (dropped_leaves e m d m (first_leaves e d m h) a below (page_no_table (cap_at d.caps a) named)))))
        (λ x n none.
        buffer_gives Whatever Unreached n _
        (give_gives Whatever Unreached n _ none))))

  -- ---- REVOKE

  abbrev after : Dom
  after = with_caps (revoked d.caps a) d

  abbrev cleared_all : Mem
  cleared_all = (unmap_all e.root (emptied_at d.caps a) m).state

  revoked_leaves : Leaves e m after cleared_all
  unfolding with_caps
  revoked_leaves = (by_slots e.root a (λ _ _. Unit {0}) (λ caps n. Leaves e m (with_caps caps d) n)
      (record {
        emptied = λ i caps n i_below long hit l.
            slot_leaves e m (with_caps caps d) n l i (omega (arith, i_below, long)) (cap_at caps i) refl
            (λ g w. revoked_no_table caps a i g w hit);
        there = λ i g rights va caps n is l. tt;
      })
      d.caps h.slots m (first_leaves e d m h)).end

  alike_page : (c z : Option Cap) → page_of c ≡ Some f → page_of z ≡ Some f → alike c z ≡ true
  alike_page None z c_is z_is = absurd (cc c_is)
  alike_page (Some (cap.Irq line)) z c_is z_is = absurd (cc c_is)
  alike_page (Some (cap.Table g v)) z c_is z_is = absurd (cc c_is)
  alike_page (Some (cap.Frame g r v)) z c_is z_is =
      let same : g ≡ f = cc c_is in
      ap (λ (p : Option ℕ). same_number (Some g) p) z_is ∙ eq-eqb g f same

  alone : (i : ℕ) → i ≢ a → page_of (cap_at (revoked d.caps a) i) ≢ Some f
  alone i other is =
      let self : page_of (cap_at (revoked d.caps a) a) ≡ Some f = ap page_of (after_itself d.caps a) ∙ named in
      true≢false (sym (alike_page (cap_at (revoked d.caps a) a) (cap_at (revoked d.caps a) i) self is) ∙ none_left d.caps a i other)

  revoked_all : IsRevoked e after cleared_all a f
  unfolding with_caps
  revoked_all = record {
    alone = alone;
    unreached = λ not_mapped. unreached after cleared_all revoked_leaves (length_revoked d.caps a) (λ i is. elim (cases_eq i a) [
      | inl same ↦ ap (λ (j : ℕ). mapped_at (cap_at (revoked d.caps a) j)) same ∙ not_mapped
      | inr other ↦ absurd (alone i other is)
    ]);
  }

  abbrev Revoked : Dom → Mem → Type 0
  Revoked x n = IsRevoked e x n a f

  done_revoked : (count : ℕ) → Revoked (done count after) cleared_all
  unfolding replied placed
  done_revoked count = record { alone = revoked_all.alone; unreached = revoked_all.unreached }

  revoke_gives : Gives Whatever Revoked (revoke e d a m)
  unfolding revoke
  revoke_gives =
      filled_gives Whatever Revoked m d (λ _. tt) a _ (λ _ c is.
      unmap_all_gives Whatever Revoked m e.root _ _
      (buffer_gives Whatever Revoked _ _
      (give_gives Whatever Revoked _ _ (done_revoked (revoked_count d.caps a)))))

-- ---- the laws

page_within : (caps : Slots) (a f : ℕ) → page_of (cap_at caps a) ≡ Some f → a < length caps
page_within caps a f named = elim (cases_lt a (length caps)) [
  | inl below ↦ below
  | inr past ↦ let no : None ≡ Some f = ap page_of (sym (get_or_past caps a None past)) ∙ named in absurd (cc no)
]

module _ (e : Estate) (d x : Dom) (m : Mem) (a f : ℕ) (w : IsEstate e) (h : Kept e d m) (named : page_of (cap_at d.caps a) ≡ Some f) where
  pub delete_means : (delete e d a m).value ≡ inr x → ((i : ℕ) → i ≢ a → page_of (cap_at d.caps i) ≢ Some f)
      → IsUnreached e (delete e d a m).state f
  delete_means is others =
      given Whatever (λ (y : Dom) (n : Mem). IsUnreached e n f) (delete e d a m)
      (delete_unreached e d m w h a f (page_within d.caps a f named) named others) x is

  pub revoke_means : (revoke e d a m).value ≡ inr x → IsRevoked e x (revoke e d a m).state a f
  revoke_means is =
      given Whatever (λ (y : Dom) (n : Mem). IsRevoked e y n a f) (revoke e d a m)
      (revoke_gives e d m w h a f (page_within d.caps a f named) named) x is
