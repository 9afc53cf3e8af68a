-- DELETE and REVOKE keep the facts, and then every call does.
use Rattle.std.proofs.Common.{◌≡◌, ℕ, ◌<◌, ◌+◌, ◌-◌, Bool, true, false, true≢false, not, eq-eqb, Option, Some, None, length, ◌⊎◌, inl, inr, refl, ap, sym, subst, ◌∙◌, arith}
use Rattle.std.specs.Prelude.{nat_eq, slice_index_or}
use Rattle.std.proofs.lemmas.Bool.{cases_lt}
use Rattle.std.proofs.lemmas.List.Folds.{list_any_at}
use Rattle.tp_base.specs.Act.{◌>>◌, give}
use Rattle.phys_mem.specs.Mem.{Mem, written}
use Rattle.sv32_walk.specs.PageTableEntry.{vpn_0, vpn_1}
use Rattle.sv32_walk.proofs.EntryLemmas.{second_of_both}
use Rattle.page_map.specs.Changes.{unmapped, uninstalled}
use Rattle.cap_table.specs.declared.Cap.{Cap}
use Rattle.cap_table.specs.declared.Cap.TheVariants as cap
use Rattle.cap_table.specs.Slots.{Slots, cap_at, is_filled, with_cap, mapped_at, installed_at, is_in_region, maps_in, in_use_at, in_use, alike, same_number, line_of, page_of, is_revoked, revoked, revoked_count}
use Rattle.cap_table.proofs.RevokeLemmas.{alike_unused}
use Rattle.cap_table.specs.Slots as slots
use Rattle.rv_core.specs.Registers.{register}
use Rattle.call_table.specs.Domain.{Dom, done, exited, with_caps}
use Rattle.call_table.specs.Claims.{Claim, Estate, is_mine, entry_places, region_of, claim_of, claims, IsMapped, IsEstate}
use Rattle.call_table.specs.Claims.Claim.{Nothing, Fixed, Leaf, Directory}
use Rattle.call_table.specs.Calls.{put_byte, clear_entry, unmap_at, uninstall_at, empty_buffer, with_slot, drop_slot, delete, emptied_at, revoke, call_of, call, number_made}
use Rattle.call_table.specs.Laws.{Kept, LeavesKept, CallsKeepLaw}
use Rattle.call_table.proofs.ClaimLaws.{one_slot, same_frame}
use Rattle.call_table.proofs.ClaimLawsSlots.{claims_at, claims_fixed}
use Rattle.call_table.proofs.StepLaws.{clearing, uninstalling, dropping, idling, leaf_same}
use Rattle.call_table.proofs.QuietCalls.{later_quiet}
use Rattle.call_table.proofs.RevokedSlots.{unmapped_if, Revokes, by_slots, revoked_no_table, clear_same}
use Rattle.call_table.proofs.CallLawsSteps.{FactsWith, Ends, kept_slot, kept_replied, kept_exited, kept_printed, give_ends, quiet_ends, if_ends, check_ends, filled_ends, unmap_all_ends, buffer_ends, clear_ends, bind_ends}
use Rattle.call_table.proofs.CallLaws.{table_at, alloc_keeps, install_keeps, map_page_keeps, unmap_keeps, copy_keeps}

-- ---- a table that is not in use has no page

-- a page's capability is in the region of its claim
page_maps : (x : Option Cap) (b : Bool) (g r u : ℕ) → claim_of x ≡ Leaf b g (Some (r, u))
    → is_in_region r (mapped_at x) ≡ true
unfolding claim_of entry_places vpn_1
page_maps None b g r u e = absurd (cc e)
page_maps (Some (cap.Frame f c None)) b g r u e = absurd (cc e)
page_maps (Some (cap.Frame f c (Some va))) b g r u e = eq-eqb (vpn_1 va) r (sym (leaf_same e).0)
page_maps (Some (cap.Table f w)) b g r u e = absurd (cc e)
page_maps (Some (cap.Irq line)) b g r u e = absurd (cc e)

none_mapped : (caps : Slots) (r : ℕ) → maps_in caps r ≡ false → (i : ℕ) (b : Bool) (g u : ℕ) → i < length caps
    → claim_of (cap_at caps i) ≡ Leaf b g (Some (r, u)) → ⊥
unfolding maps_in
none_mapped caps r none i b g u below e =
    true≢false (sym (list_any_at (λ c. is_in_region r (mapped_at c)) caps i None below (page_maps (cap_at caps i) b g r u e)) ∙ none)

-- no page is mapped through an installed table of a capability that is not in use
none_through : (e : Estate) (d : Dom) (m : Mem) → IsEstate e → Kept e d m → (a f r : ℕ) → a < 64
    → claims e d.caps a ≡ Directory f (Some r) → maps_in d.caps r ≡ false
    → (i : ℕ) (b : Bool) (g u : ℕ) → claims e d.caps i ≡ Leaf b g (Some (r, u)) → ⊥
none_through e d m s h a f r below is none i b g u x = elim (cases_lt i 64) [
  | inl q ↦ none_mapped d.caps r none i b g u (omega (arith, q, h.slots)) (sym (claims_at e d.caps h.slots i q) ∙ x)
  | inr q ↦
      let same : 64 + (i - 64) ≡ i = omega (arith, q) in
      let p : slice_index_or e.fixed (i - 64) Nothing ≡ Leaf b g (Some (r, u)) =
      sym (claims_fixed e d.caps h.slots (i - 64)) ∙ ap (claims e d.caps) same ∙ x in
      let t = s.stays (i - 64) b g r u p in
      let z : claims e d.caps (64 + t.0) ≡ Directory t.1 (Some r) = claims_fixed e d.caps h.slots t.0 ∙ t.2 in
      let w : t.1 ≡ f = same_frame e.root (is_mine e) (claims e d.caps) m h.facts (64 + t.0) a t.1 f r z is in
      let v : 64 + t.0 ≡ a = one_slot e.root (is_mine e) (claims e d.caps) m h.facts (64 + t.0) a f (Some r) (Some r)
      (subst (λ (g : ℕ). claims e d.caps (64 + t.0) ≡ Directory g (Some r)) w z) is in
      absurd (omega (arith, v, below))
]

-- ---- a slot is dropped

-- the facts, with a slot's claim gone
abbrev pub Dropped : Estate → Dom → ℕ → Mem → Type 0
Dropped e d a n = FactsWith e d a Nothing n

-- a claim without an entry
pub drop_loose : (e : Estate) (d : Dom) (m : Mem) (a f : ℕ) (c : Claim) → Kept e d m → claims e d.caps a ≡ c
    → (c ≡ Nothing) ⊎ ((c ≡ Leaf true f None) ⊎ (c ≡ Directory f None)) → Dropped e d a m
drop_loose e d m a f c h is (inl n) = idling e.root (is_mine e) (claims e d.caps) m h.facts a (is ∙ n)
drop_loose e d m a f c h is (inr (inl n)) = dropping e.root (is_mine e) (claims e d.caps) m h.facts a
    (λ x q p. let w : Leaf true f None ≡ Directory x (Some q) = sym (is ∙ n) ∙ p in absurd (cc w))
    (λ b x q u p. let w : Leaf true f None ≡ Leaf b x (Some (q, u)) = sym (is ∙ n) ∙ p in absurd (cc w))
    (λ x p. let w : Leaf true f None ≡ Fixed x = sym (is ∙ n) ∙ p in absurd (cc w))
drop_loose e d m a f c h is (inr (inr n)) = dropping e.root (is_mine e) (claims e d.caps) m h.facts a
    (λ x q p. let w : Directory f None ≡ Directory x (Some q) = sym (is ∙ n) ∙ p in absurd (cc w))
    (λ b x q u p. let w : Directory f None ≡ Leaf b x (Some (q, u)) = sym (is ∙ n) ∙ p in absurd (cc w))
    (λ x p. let w : Directory f None ≡ Fixed x = sym (is ∙ n) ∙ p in absurd (cc w))

-- a mapped page: its leaf is cleared
pub drop_page : (e : Estate) (d : Dom) (m : Mem) (a f va : ℕ) → Kept e d m
    → claims e d.caps a ≡ Leaf true f (Some (vpn_1 va, vpn_0 va)) → Dropped e d a (unmapped m e.root va)
drop_page e d m a f va h is =
    let l : IsMapped (claims e d.caps) m f (vpn_1 va) (vpn_0 va) = h.facts.mapped a true f (vpn_1 va) (vpn_0 va) is in
    subst (λ (g : ℕ). Dropped e d a (written m g (vpn_0 va) 0)) (sym (table_at e d m va l.slot l.frame h l.claim))
    (clearing e.root (is_mine e) (claims e d.caps) m h.facts a true f (vpn_1 va) (vpn_0 va) l.slot l.frame is l.claim)

-- an installed table through which no page is mapped: its entry is cleared
pub drop_table : (e : Estate) (d : Dom) (m : Mem) (a f va : ℕ) → IsEstate e → Kept e d m → a < 64
    → claims e d.caps a ≡ Directory f (Some (vpn_1 va)) → maps_in d.caps (slots.region_of va) ≡ false
    → Dropped e d a (uninstalled m e.root va)
unfolding vpn_1
drop_table e d m a f va s h below is none =
    uninstalling e.root (is_mine e) (claims e d.caps) m h.facts a f (vpn_1 va) is
    (none_through e d m s h a f (vpn_1 va) below is none)

-- every slot that is no table in use
pub drop_facts : (e : Estate) (d : Dom) (m : Mem) (a : ℕ) (c : Option Cap) → IsEstate e → Kept e d m → a < 64
    → cap_at d.caps a ≡ c → in_use_at d.caps (installed_at c) ≡ false → Dropped e d a (clear_entry e.root c m).state
unfolding clear_entry unmap_at uninstall_at give claim_of entry_places region_of
drop_facts e d m a None s h below is unused =
    drop_loose e d m a 0 Nothing h (claims_at e d.caps h.slots a below ∙ ap claim_of is) (inl refl)
drop_facts e d m a (Some (cap.Frame f rights None)) s h below is unused =
    drop_loose e d m a f (Leaf true f None) h (claims_at e d.caps h.slots a below ∙ ap claim_of is) (inr (inl refl))
drop_facts e d m a (Some (cap.Frame f rights (Some va))) s h below is unused =
    drop_page e d m a f va h (claims_at e d.caps h.slots a below ∙ ap claim_of is)
drop_facts e d m a (Some (cap.Table f None)) s h below is unused =
    drop_loose e d m a f (Directory f None) h (claims_at e d.caps h.slots a below ∙ ap claim_of is) (inr (inr refl))
drop_facts e d m a (Some (cap.Table f (Some va))) s h below is unused =
    drop_table e d m a f va s h below (claims_at e d.caps h.slots a below ∙ ap claim_of is) unused
drop_facts e d m a (Some (cap.Irq line)) s h below is unused =
    drop_loose e d m a 0 Nothing h (claims_at e d.caps h.slots a below ∙ ap claim_of is) (inl refl)

drop_ends : (e : Estate) (d : Dom) (m : Mem) (a : ℕ) → IsEstate e → Kept e d m → a < 64
    → in_use d.caps a ≡ false
    → Ends e (drop_slot e a d m)
unfolding drop_slot in_use claim_of
drop_ends e d m a s h below unused =
    clear_ends e m e.root (cap_at d.caps a) _
    (give_ends e _ _ (kept_slot e d m (clear_entry e.root (cap_at d.caps a) m).state a None h below
    (drop_facts e d m a (cap_at d.caps a) s h below refl unused)))

-- ---- DELETE

not_true : (b : Bool) → not b ≡ true → b ≡ false
not_true true h = absurd (true≢false (sym h))
not_true false h = refl

delete_ends : (e : Estate) (d : Dom) (m : Mem) (a : ℕ) → IsEstate e → Kept e d m → Ends e (delete e d a m)
unfolding delete
delete_ends e d m a s h =
    filled_ends e d m a _ h (λ c below there.
    check_ends e d m 12 _ _ h (λ unused.
    bind_ends e (drop_slot e a d) (λ x. empty_buffer >> give (done 0 x)) m
    (drop_ends e d m a s h below (not_true (in_use d.caps a) unused)) (λ x n k.
    buffer_ends e n _
    (give_ends e _ n (kept_replied e x n 0 0 k)))))

pub delete_keeps : (e : Estate) (d : Dom) (m : Mem) (a : ℕ) → IsEstate e → Kept e d m
    → LeavesKept e (delete e d a m)
delete_keeps e d m a s h = (delete_ends e d m a s h).kept

-- ---- REVOKE

pub revoked_loose : (caps : Slots) (a i : ℕ) → is_revoked caps a i ≡ true → in_use caps i ≡ false
revoked_loose caps a i h = alike_unused caps (cap_at caps a) i (second_of_both (not (nat_eq i a)) (alike (cap_at caps a) (cap_at caps i)) h)

-- the facts stay as each slot is emptied
pub slot_keeps : (e : Estate) (d : Dom) (m : Mem) (a i : ℕ) → IsEstate e → Kept e d m → i < 64
    → is_revoked d.caps a i ≡ true
    → Kept e (with_slot d i None) (unmapped_if m e.root (mapped_at (cap_at d.caps i)))
unfolding in_use claim_of
slot_keeps e d m a i s h below hit =
    subst (λ (n : Mem). Kept e (with_slot d i None) n)
    (clear_same e.root (cap_at d.caps i) m (λ f w. revoked_no_table d.caps a i f w hit))
    (kept_slot e d m (clear_entry e.root (cap_at d.caps i) m).state i None h below
    (drop_facts e d m i (cap_at d.caps i) s h below refl (revoked_loose d.caps a i hit)))

-- and so in the end, where a leaf that is cleared meets C by the facts
pub revoked_keeps : (e : Estate) (d : Dom) (m : Mem) (a : ℕ) (C : Mem → ℕ → Type 0) → IsEstate e → Kept e d m
    → ((i f rights va : ℕ) (caps : Slots) (n : Mem) → cap_at caps i ≡ Some (cap.Frame f rights (Some va))
    → Kept e (with_caps caps d) n → C n va)
    → Revokes e.root a C (λ caps n. Kept e (with_caps caps d) n) d.caps m (emptied_at d.caps a)
unfolding with_caps
revoked_keeps e d m a C s h there =
    by_slots e.root a C (λ caps n. Kept e (with_caps caps d) n)
    (record {
      emptied = λ i caps n below long hit k. slot_keeps e (with_caps caps d) n a i s k below hit;
      there = there;
    })
    d.caps h.slots m h

revoke_ends : (e : Estate) (d : Dom) (m : Mem) (a : ℕ) → IsEstate e → Kept e d m → Ends e (revoke e d a m)
unfolding revoke
revoke_ends e d m a s h =
    filled_ends e d m a _ h (λ c below there.
    unmap_all_ends e m e.root (emptied_at d.caps a) _
    (buffer_ends e _ _
    (give_ends e _ _ (kept_replied e (with_caps (revoked d.caps a) d) _ 0 (revoked_count d.caps a)
    (revoked_keeps e d m a (λ _ _. Unit {0}) s h (λ i f rights va caps n is k. tt)).end))))

pub revoke_keeps : (e : Estate) (d : Dom) (m : Mem) (a : ℕ) → IsEstate e → Kept e d m
    → LeavesKept e (revoke e d a m)
revoke_keeps e d m a s h = (revoke_ends e d m a s h).kept

-- ---- EXIT, PUT, and all calls

pub put_keeps : (e : Estate) (d : Dom) (m : Mem) (a : ℕ) → IsEstate e → Kept e d m
    → LeavesKept e (put_byte d a m)
unfolding put_byte
put_keeps e d m a s h = (check_ends e d m 11 _ _ h (λ _. give_ends e _ m (kept_replied e _ m 0 0 (kept_printed e d m _ h)))).kept

pub exit_keeps : (e : Estate) (d : Dom) (m : Mem) (a : ℕ) → IsEstate e → Kept e d m
    → LeavesKept e (give (exited a d) m)
exit_keeps e d m a s h = (give_ends e _ m (kept_exited e d m a h)).kept

pub call_of_keeps : (e : Estate) (d : Dom) (m : Mem) (number a b c : ℕ) → IsEstate e → Kept e d m
    → LeavesKept e (call_of e d number a b c m)
unfolding call_of
call_of_keeps e d m number a b c s h =
    (if_ends e (nat_eq number 0) _ _ m (record { kept = exit_keeps e d m a s h })
    (if_ends e (nat_eq number 1) _ _ m (record { kept = put_keeps e d m a s h })
    (if_ends e (nat_eq number 2) _ _ m (record { kept = alloc_keeps e d m a b s h })
    (if_ends e (nat_eq number 3) _ _ m (record { kept = install_keeps e d m a b s h })
    (if_ends e (nat_eq number 4) _ _ m (record { kept = map_page_keeps e d m a b c s h })
    (if_ends e (nat_eq number 5) _ _ m (record { kept = unmap_keeps e d m a s h })
    (if_ends e (nat_eq number 6) _ _ m (record { kept = copy_keeps e d m a b c s h })
    (if_ends e (nat_eq number 7) _ _ m (record { kept = delete_keeps e d m a s h })
    (if_ends e (nat_eq number 8) _ _ m (record { kept = revoke_keeps e d m a s h })
    (quiet_ends e d m _ h (later_quiet d number a b))))))))))).kept

pub calls_keep : CallsKeepLaw
unfolding call
calls_keep e d m s h =
    let regs = d.threads.current.regs in
    call_of_keeps e d m (number_made e d) (register regs 10) (register regs 11) (register regs 12) s h
