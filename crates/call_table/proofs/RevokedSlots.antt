-- REVOKE slot by slot: what holds at first, and stays as each slot is emptied and its leaf cleared, holds at the end.
use Rattle.std.proofs.Common.{◌≡◌, ◌≢◌, ◌∙◌, ap, ap₂, sym, subst, refl, ℕ, zero, suc, ◌+◌, ◌<◌, Bool, true, false, true≢false, not, ◌&&◌, arith, inr, List, [], ◌∷◌, ◌++◌, length, Option, Some, None}
use Rattle.std.specs.Prelude.{nat_eq, if◌then◌else◌}
use Rattle.std.specs.List.{range_with_len}
use Rattle.std.proofs.lemmas.Bool.{and_parts}
use Rattle.tp_base.specs.Act.{go_on, ◌>>=◌, ◌>>◌, give}
use Rattle.phys_mem.specs.Mem.{Mem}
use Rattle.page_map.specs.Changes.{unmapped}
use Rattle.cap_table.specs.declared.Cap.{Cap}
use Rattle.cap_table.specs.declared.Cap.TheVariants as cap
use Rattle.cap_table.specs.Slots as slots
use Rattle.cap_table.specs.Slots.{Slots, cap_at, with_cap, mapped_at, alike, is_revoked, revoked, push_some}
use Rattle.cap_table.proofs.RevokeLemmas.{RevokedTo, none_done, one_emptied, one_stays, still_there, all_done}
use Rattle.call_table.specs.Calls.{Act, clear_entry, unmap_at, emptied_at, unmap_all}

-- the memory where the leaf at an address is cleared, if there is one
abbrev pub unmapped_if : Mem → ℕ → Option ℕ → Mem
unmapped_if m root None = m
unmapped_if m root (Some va) = unmapped m root va

-- so of each leaf as it is cleared, one after another
abbrev pub Each : (Mem → ℕ → Type 0) → Mem → ℕ → List ℕ → Type 0
Each C m root [] = Unit {0}
Each C m root (va ∷ vas) = C m va × Each C (unmapped m root va) root vas

no_table_alike : (x : Option Cap) (f : ℕ) (w : Option ℕ) → alike x (Some (cap.Table f w)) ≡ true → ⊥
no_table_alike None f w e = true≢false (sym e)
no_table_alike (Some (cap.Irq line)) f w e = true≢false (sym e)
no_table_alike (Some (cap.Frame g rights v)) f w e = true≢false (sym e)
no_table_alike (Some (cap.Table g v)) f w e = true≢false (sym e)

pub revoked_no_table : (caps : Slots) (a i f : ℕ) (w : Option ℕ) → is_revoked caps a i ≡ true
    → cap_at caps i ≢ Some (cap.Table f w)
revoked_no_table caps a i f w r is =
    no_table_alike (cap_at caps a) f w (subst (λ (c : Option Cap). alike (cap_at caps a) c ≡ true) is (and_parts _ _ r).1)

module _ (root a : ℕ) (C : Mem → ℕ → Type 0) (P : Slots → Mem → Type 0) where
  -- P stays where a slot that is revoked is emptied, and gives C of the leaf that is cleared then
  pub record Stays : Type 0 where
    pub emptied : (i : ℕ) (now : Slots) (m : Mem) → i < 64 → length now ≡ 64 → is_revoked now a i ≡ true
        → P now m
        → P (with_cap now i None) (unmapped_if m root (mapped_at (cap_at now i)))
    pub there : (i f rights va : ℕ) (now : Slots) (m : Mem)
        → cap_at now i ≡ Some (cap.Frame f rights (Some va)) → P now m → C m va

  -- P in the end, and C on the way
  pub record Revokes (caps : Slots) (m : Mem) (vas : List ℕ) : Type 0 where
    pub each : Each C m root vas
    pub end : P (revoked caps a) (unmap_all root vas m).state

  module _ (s : Stays) (caps : Slots) (long : length caps ≡ 64) where
    frame_there : (c : Option Cap) (va : ℕ) → mapped_at c ≡ Some va
        → (f : ℕ) × (rights : ℕ) × (c ≡ Some (cap.Frame f rights (Some va)))
    frame_there None va is = absurd (cc is)
    frame_there (Some (cap.Table f w)) va is = absurd (cc is)
    frame_there (Some (cap.Irq line)) va is = absurd (cc is)
    frame_there (Some (cap.Frame f rights w)) va is = (f, rights, ap (λ (w : Option ℕ). Some (cap.Frame f rights w)) is)

    module _ (i : ℕ) (below : i < 64) (now : Slots) (m : Mem) (r : RevokedTo caps a i now) (p : P now m) where
      here : cap_at now i ≡ cap_at caps i
      here = r.left i (omega arith)

      same_test : is_revoked now a i ≡ is_revoked caps a i
      same_test = ap₂ (λ (c z : Option Cap). not (nat_eq i a) && alike c z) (still_there caps a i now r) here

      -- the slot, emptied, and those after it
      emptied_first : is_revoked caps a i ≡ true → (vas : List ℕ) (at : Option ℕ)
          → mapped_at (cap_at caps i) ≡ at
          → ((next : Slots) (k : Mem) → RevokedTo caps a (i + 1) next → P next k → Revokes caps k vas) → Revokes caps m (push_some at vas)
      unfolding unmap_all unmap_at ◌>>◌ ◌>>=◌ go_on
      emptied_first hit vas None at go =
          let next = s.emptied i now m below r.places (same_test ∙ hit) p in
          go (with_cap now i None) m (one_emptied caps a i now r below hit)
          (subst (λ (o : Option ℕ). P (with_cap now i None) (unmapped_if m root o)) (ap mapped_at here ∙ at) next)
      emptied_first hit vas (Some va) at go =
          let next = s.emptied i now m below r.places (same_test ∙ hit) p in
          let rest = go (with_cap now i None) (unmapped m root va) (one_emptied caps a i now r below hit)
          (subst (λ (o : Option ℕ). P (with_cap now i None) (unmapped_if m root o)) (ap mapped_at here ∙ at) next) in
          let frame = frame_there (cap_at now i) va (ap mapped_at here ∙ at) in
          record { each = (s.there i frame.0 frame.1 va now m frame.2 p, rest.each); end = rest.end }

      one_slot : (t : Bool) → is_revoked caps a i ≡ t → (vas : List ℕ)
          → ((next : Slots) (k : Mem) → RevokedTo caps a (i + 1) next → P next k → Revokes caps k vas)
          → Revokes caps m (push_some (if t then mapped_at (cap_at caps i) else None) vas)
      one_slot true hit vas go = emptied_first hit vas (mapped_at (cap_at caps i)) refl go
      one_slot false missed vas go = go now m (one_stays caps a i now r missed) p

    from_slot : (n i : ℕ) (now : Slots) (m : Mem) → i + n ≡ 64 → RevokedTo caps a i now → P now m
        → Revokes caps m (slots.entries_in caps a (range_with_len i n))
    unfolding slots.entries_in unmap_all give
    from_slot zero i now m all r p =
        let last : i ≡ 64 = omega (arith, all) in
        let done : now ≡ revoked caps a = all_done caps a now long (subst (λ (j : ℕ). RevokedTo caps a j now) last r) in
        record { each = tt; end = subst (λ (next : Slots). P next m) done p }
    from_slot (suc n) i now m all r p =
        one_slot i (omega (arith, all)) now m r p (is_revoked caps a i) refl (slots.entries_in caps a (range_with_len (i + 1) n))
        (λ next k t q. from_slot n (i + 1) next k (omega (arith, all)) t q)

    pub by_slots : (m : Mem) → P caps m → Revokes caps m (emptied_at caps a)
    by_slots m p = from_slot 64 0 caps m (omega arith) (none_done caps a long) p

-- ---- what is left where the leaf of a slot, or several, are cleared

-- of a slot that is no table
pub clear_same : (root : ℕ) (c : Option Cap) (m : Mem) → ((f : ℕ) (w : Option ℕ) → c ≢ Some (cap.Table f w))
    → (clear_entry root c m).state ≡ unmapped_if m root (mapped_at c)
unfolding clear_entry unmap_at give
clear_same root None m no_table = refl
clear_same root (Some (cap.Frame f rights None)) m no_table = refl
clear_same root (Some (cap.Frame f rights (Some va))) m no_table = refl
clear_same root (Some (cap.Irq line)) m no_table = refl
clear_same root (Some (cap.Table f w)) m no_table = absurd (no_table f w refl)

-- nothing ends early
pub all_value : (root : ℕ) (vas : List ℕ) (m : Mem) → (unmap_all root vas m).value ≡ inr tt
unfolding unmap_all unmap_at give ◌>>◌ ◌>>=◌ go_on
all_value root [] m = refl
all_value root (va ∷ vas) m = all_value root vas (unmapped m root va)

-- what follows comes after all of them
pub after_all : {A : Type 0} (root : ℕ) (vas : List ℕ) (y : Act A) (m : Mem) → (unmap_all root vas >> y) m
    ≡ record {
      notes = (unmap_all root vas m).notes ++ (y (unmap_all root vas m).state).notes;
      state = (y (unmap_all root vas m).state).state;
      value = (y (unmap_all root vas m).state).value;
    }
unfolding ◌>>◌ ◌>>=◌ go_on
after_all root vas y m = ap (go_on (unmap_all root vas m) (λ _. y)) (all_value root vas m)
