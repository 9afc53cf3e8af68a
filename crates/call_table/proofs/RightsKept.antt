-- Each leaf stays within the rights of the capability through which it is mapped, and what walks come to then.
use Rattle.std.proofs.Common.{◌≡◌, ◌≢◌, ◌∙◌, ap, ap₂, sym, subst, refl, inl, inr, ◌⊎◌, ℕ, ◌-◌, ◌<◌, ◌≤◌, ◌%◌, ◌/◌, Bool, true, false, true≢false, arith, eqb-true, eq-eqb, leb-true, List, [], ◌∷◌, length, Option, Some, None}
use Rattle.std.specs.Prelude.{if◌then◌else◌, nat_eq, nat_le}
use Rattle.std.proofs.lemmas.Bool.{and_parts, cases_lt}
use Rattle.tp_base.specs.Act.{Done, go_on, ◌>>=◌, ◌>>◌, give, either}
use Rattle.tp_base.specs.Rights.{are_good}
use Rattle.phys_mem.specs.Mem.{Mem, word, written, zeroed_frame, word-written_frame}
use Rattle.sv32_walk.specs.declared.access.Access.{Access}
use Rattle.sv32_walk.specs.declared.access.Access.TheVariants.{Fetch, Load, Store}
use Rattle.sv32_walk.specs.PageTableEntry.{valid, ppn, vpn_0, vpn_1, rights_permit, leaf_word, permits, user}
use Rattle.sv32_walk.specs.Translation.{second_entry, Allows, HasLeaf, big, small}
use Rattle.sv32_walk.proofs.EntryLemmas.{allowed-permits}
use Rattle.sv32_walk.proofs.WordLemmas.{valid-leaf, permits-leaf, points-table, ppn-table}
use Rattle.sv32_walk.proofs.WalkLemmas.{leaf_in_words}
use Rattle.page_map.specs.Tables.{has_table, table_of, map_refusal, install_refusal}
use Rattle.page_map.specs.Reached.{leaf_at as entry_at}
use Rattle.page_map.specs.Changes.{mapped, unmapped, installed, uninstalled}
use Rattle.page_map.proofs.KeptLemmas.{at_write, never}
use Rattle.page_map.proofs.PageLemmas.{first_in, second_in}
use Rattle.cap_table.specs.declared.Cap.{Cap}
use Rattle.cap_table.specs.declared.Cap.TheVariants as cap
use Rattle.cap_table.specs.Slots.{Slots, cap_at, mapped_at, copied, noted, is_revoked, revoked, revoked_count}
use Rattle.cap_table.proofs.RevokeLemmas.{at_revoked}
use Rattle.rv_core.specs.Registers.{register}
use Rattle.call_table.specs.Domain.{Dom, placed, replied, done, refused, exited, with_caps}
use Rattle.call_table.specs.Claims.{Claim, Estate, is_mine, claims, claim_of, entry_places, least_free, IsMapped}
use Rattle.call_table.specs.Calls.{Note, Page, is_within, may_give, is_slot, page_in, table_in, fresh_cap, copy_refusal, clear_entry, with_slot, put_byte, alloc, install, map_page, unmap, copy, drop_slot, delete, unmap_at, emptied_at, unmap_all, revoke, call_of, call, number_made}
use Rattle.call_table.specs.Laws.{Kept, LeavesKept}
use Rattle.call_table.specs.Rights.{IsWithin, AreWithin, NothingMappedLaw, CallsWithinLaw, StoresWithinLaw, MayReach, by_cap, for_good, WalksWithinLaw}
use Rattle.call_table.proofs.TablesClaims.{leaf_entry, leaf_frame}
use Rattle.call_table.proofs.TablesSlots.{claim_at, claim_within, cap_by}
use Rattle.call_table.proofs.TablesMeaning.{page_tables}
use Rattle.call_table.proofs.QuietCalls.{later_quiet}
use Rattle.call_table.proofs.CallLaws.{CanTake, map_allowed, install_allowed}
use Rattle.call_table.proofs.CallLawsDelete.{call_of_keeps}
use Rattle.call_table.proofs.ConfinedCalls.{ready, page_in_is}
use Rattle.call_table.proofs.MeaningSteps.{Ends, Whatever, Gives, given, bind_gives, give_gives, if_gives, quiet_gives, zero_gives, map_gives, unmap_gives, uninstall_gives, install_gives, unmap_all_gives, buffer_gives, nothing_gives, page_refusal_gives, table_refusal_gives, check_gives, some_gives, filled_gives, allowed_gives, unless_gives}
use Rattle.call_table.proofs.MeaningCalls.{claim_past}
use Rattle.call_table.proofs.MeaningRevoke.{same_place}
use Rattle.page_map.proofs.WalkLemmas.{vpn_1-below}
use Rattle.call_table.proofs.MeaningPages.{table_in_is}
use Rattle.call_table.proofs.Refusals.{call_of_tidy}
use Rattle.call_table.proofs.WalksStay.{KeepsEntries, nothing_written, zeroed, table_installed, page_mapped}

-- ---- capabilities: none is mapped that wasn't

-- a capability that is not mapped
record IsLoose (c : Option Cap) : Type 0 where
  not_mapped : (f r va : ℕ) → c ≢ Some (cap.Frame f r (Some va))

-- each page that is mapped was mapped through the same slot
record OldMaps (d x : Dom) : Type 0 where
  each : (i f r va : ℕ) → cap_at x.caps i ≡ Some (cap.Frame f r (Some va))
      → cap_at d.caps i ≡ Some (cap.Frame f r (Some va))

same_maps : (d : Dom) → OldMaps d d
same_maps d = record { each = λ i f r va is. is }

slot_maps : (d x : Dom) (a : ℕ) (c : Option Cap) → OldMaps d x → IsLoose c → OldMaps d (with_slot x a c)
unfolding with_caps
slot_maps d x a c h l = record {
  each = λ i f r va is. elim (cap_by x.caps a i c (cap.Frame f r (Some va)) is) [
    | inl new ↦ absurd (l.not_mapped f r va new.1)
    | inr old ↦ h.each i f r va old.1
  ];
}

done_maps : (d x : Dom) (value : ℕ) → OldMaps d x → OldMaps d (done value x)
unfolding replied placed
done_maps d x value h = record { each = h.each }

no_cap : IsLoose None
no_cap = record { not_mapped = λ f r va is. cc is }

fresh_loose : (t : Bool) (g : ℕ) → IsLoose (Some (if t then cap.Frame g 7 None else cap.Table g None))
fresh_loose true g = record { not_mapped = λ f r va is. cc is }
fresh_loose false g = record { not_mapped = λ f r va is. cc is }

noted_loose : (c : Cap) → IsLoose (noted (Some c) None)
noted_loose (cap.Frame g s v) = record { not_mapped = λ f r va is. cc is }
noted_loose (cap.Table g v) = record { not_mapped = λ f r va is. cc is }
noted_loose (cap.Irq line) = record { not_mapped = λ f r va is. cc is }

copied_loose : (c : Cap) (rights : ℕ) → IsLoose (copied (Some c) rights)
copied_loose (cap.Frame g s v) rights = record { not_mapped = λ f r va is. cc is }
copied_loose (cap.Table g v) rights = record { not_mapped = λ f r va is. cc is }
copied_loose (cap.Irq line) rights = record { not_mapped = λ f r va is. cc is }

-- ---- page tables: no leaf is valid that wasn't

record NoNewLeaf (m n : Mem) (root : ℕ) : Type 0 where
  was : (r t : ℕ) → valid (word n root r) ≡ true → valid (entry_at n root r t) ≡ true
      → entry_at n root r t ≡ entry_at m root r t

same_leaves : (m : Mem) (root : ℕ) → NoNewLeaf m m root
same_leaves m root = record { was = λ r t r_ok ok. refl }

-- a word that is valid after a zero was written is as it was
still_valid : (n : Mem) (f p g i : ℕ) → valid (word (written n f p 0) g i) ≡ true
    → word (written n f p 0) g i ≡ word n g i
still_valid n f p g i ok = elim (at_write n f p 0 g i) [
  | inl here ↦ never (ap valid (sym here.2) ∙ ok)
  | inr there ↦ there
]

less_leaves : (m n : Mem) (root f p : ℕ) → NoNewLeaf m n root → NoNewLeaf m (written n f p 0) root
less_leaves m n root f p h = record {
  was = λ r t r_ok ok.
      let same : word (written n f p 0) root r ≡ word n root r = still_valid n f p root r r_ok in
      let at : entry_at (written n f p 0) root r t ≡ word (written n f p 0) (ppn (word n root r)) t =
      ap (λ (w : ℕ). word (written n f p 0) (ppn w) t) same in
      let entry : entry_at (written n f p 0) root r t ≡ entry_at n root r t =
      at ∙ still_valid n f p (ppn (word n root r)) t (ap valid (sym at) ∙ ok) in
      entry ∙ h.was r t (ap valid (sym same) ∙ r_ok) (ap valid (sym entry) ∙ ok);
}

-- ---- what calls leave

module _ (e : Estate) (d : Dom) (m : Mem) where
  -- fewer pages are mapped, and fewer leaves are valid
  record IsLess (x : Dom) (n : Mem) : Type 0 where
    maps : OldMaps d x
    leaves : NoNewLeaf m n e.root

  abbrev Less : Dom → Mem → Type 0
  Less x n = IsLess x n

  -- no more pages are mapped
  abbrev Maps : Dom → Mem → Type 0
  Maps x n = OldMaps d x

  nothing_less : IsLess d m
  nothing_less = record { maps = same_maps d; leaves = same_leaves m e.root }

  clear_less : (x : Dom) (n : Mem) (c : Option Cap) (i : ℕ) → IsLess x n
      → Gives Whatever Less ((clear_entry e.root c >> give (with_slot x i None)) n)
  unfolding clear_entry
  clear_less x n (Some (cap.Frame f rights (Some va))) i h =
      unmap_gives Whatever Less n e.root va _ (give_gives Whatever Less (unmapped n e.root va) _ (record {
        maps = slot_maps d x i None h.maps no_cap;
        leaves = less_leaves m n e.root _ _ h.leaves;
      }))
  clear_less x n (Some (cap.Table f (Some va))) i h =
      uninstall_gives Whatever Less n e.root va _ (give_gives Whatever Less (uninstalled n e.root va) _ (record {
        maps = slot_maps d x i None h.maps no_cap;
        leaves = less_leaves m n e.root _ _ h.leaves;
      }))
  clear_less x n (Some (cap.Frame f rights None)) i h =
      nothing_gives Whatever Less n _
      (give_gives Whatever Less n _
      (record { maps = slot_maps d x i None h.maps no_cap; leaves = h.leaves }))
  clear_less x n (Some (cap.Table f None)) i h =
      nothing_gives Whatever Less n _
      (give_gives Whatever Less n _
      (record { maps = slot_maps d x i None h.maps no_cap; leaves = h.leaves }))
  clear_less x n (Some (cap.Irq line)) i h =
      nothing_gives Whatever Less n _
      (give_gives Whatever Less n _
      (record { maps = slot_maps d x i None h.maps no_cap; leaves = h.leaves }))
  clear_less x n None i h =
      nothing_gives Whatever Less n _
      (give_gives Whatever Less n _
      (record { maps = slot_maps d x i None h.maps no_cap; leaves = h.leaves }))

  drop_less : (i : ℕ) (x : Dom) (n : Mem) → IsLess x n → Gives Whatever Less (drop_slot e i x n)
  unfolding drop_slot
  drop_less i x n h = clear_less x n (cap_at x.caps i) i h

  all_less : (vas : List ℕ) (n : Mem) → NoNewLeaf m n e.root
      → NoNewLeaf m (unmap_all e.root vas n).state e.root
  unfolding unmap_all unmap_at give ◌>>◌ ◌>>=◌ go_on
  all_less [] n h = h
  all_less (va ∷ vas) n h = all_less vas (unmapped n e.root va) (less_leaves m n e.root _ _ h)

  revoked_less : (a : ℕ) (vas : List ℕ)
      → IsLess (with_caps (revoked d.caps a) d) (unmap_all e.root vas m).state
  unfolding with_caps
  revoked_less a vas = record {
    maps = record { each = λ i f r va is. by_test i f r va (is_revoked d.caps a i) (sym (at_revoked d.caps a i) ∙ is) };
    leaves = all_less vas m (same_leaves m e.root);
  }
    where
      by_test : (i f r va : ℕ) (t : Bool)
          → (if t then None else cap_at d.caps i) ≡ Some (cap.Frame f r (Some va))
          → cap_at d.caps i ≡ Some (cap.Frame f r (Some va))
      by_test i f r va true is = absurd (cc is)
      by_test i f r va false is = is

  done_less : (x : Dom) (n : Mem) (value : ℕ) → IsLess x n → IsLess (done value x) n
  done_less x n value h = record { maps = done_maps d x value h.maps; leaves = h.leaves }

  -- UNMAP, DELETE and REVOKE
  unmap_less : (a : ℕ) → Gives Whatever Less (unmap e d a m)
  unfolding unmap
  unmap_less a =
      filled_gives Whatever Less m d (λ _. tt) a _ (λ _ c _.
      some_gives Whatever Less m d (λ _. tt) 5 (page_in c) _ (λ page _.
      some_gives Whatever Less m d (λ _. tt) 7 page.mapped _ (λ va _.
      unmap_gives Whatever Less m e.root va _
      (buffer_gives Whatever Less (unmapped m e.root va) _
      (give_gives Whatever Less (unmapped m e.root va) _ (record {
        maps = done_maps d _ 0 (slot_maps d d a (noted (Some c) None) (same_maps d) (noted_loose c));
        leaves = less_leaves m m e.root _ _ (same_leaves m e.root);
      }))))))

  delete_less : (a : ℕ) → Gives Whatever Less (delete e d a m)
  unfolding delete
  delete_less a =
      filled_gives Whatever Less m d (λ _. tt) a _ (λ _ c _.
      check_gives Whatever Less m d (λ _. tt) 12 _ _ (λ _.
      bind_gives Whatever Less Less (drop_slot e a d) _ m (drop_less a d m nothing_less) (λ x n h.
      buffer_gives Whatever Less n _
      (give_gives Whatever Less n _ (done_less x n 0 h)))))

  revoke_less : (a : ℕ) → Gives Whatever Less (revoke e d a m)
  unfolding revoke
  revoke_less a =
      filled_gives Whatever Less m d (λ _. tt) a _ (λ _ c _.
      unmap_all_gives Whatever Less m e.root _ _
      (buffer_gives Whatever Less _ _
      (give_gives Whatever Less _ _ (done_less _ _ (revoked_count d.caps a) (revoked_less a (emptied_at d.caps a))))))

-- ---- and the calls that clear no entries, but MAP

module _ (e : Estate) (d : Dom) (m : Mem) (h : Kept e d m) where
  -- no more pages are mapped, and valid entries stay
  record IsMore (x : Dom) (n : Mem) : Type 0 where
    maps : OldMaps d x
    entries : KeepsEntries m n e.root

  abbrev More : Dom → Mem → Type 0
  More x n = IsMore x n

  slot_more : (a value : ℕ) (c : Option Cap) (n : Mem) → IsLoose c → KeepsEntries m n e.root
      → IsMore (done value (with_slot d a c)) n
  slot_more a value c n l k =
      record { maps = done_maps d (with_slot d a c) value (slot_maps d d a c (same_maps d) l); entries = k }

  same_more : (x : Dom) → x.caps ≡ d.caps → IsMore x m
  same_more x same = record {
    maps = record { each = λ i f r va is. ap (λ (caps : Slots). cap_at caps i) (sym same) ∙ is };
    entries = nothing_written e d m h;
  }

  put_more : (a : ℕ) → Gives Whatever More (put_byte d a m)
  unfolding put_byte replied placed
  put_more a = check_gives Whatever More m d (λ _. tt) 11 _ _ (λ _. give_gives Whatever More m _ (same_more _ refl))

  alloc_more : (a b : ℕ) → Gives Whatever More (alloc e d a b m)
  unfolding alloc is_slot
  alloc_more a b =
      check_gives Whatever More m d (λ _. tt) 2 _ _ (λ _.
      check_gives Whatever More m d (λ _. tt) 4 _ _ (λ _.
      check_gives Whatever More m d (λ _. tt) 5 _ _ (λ _.
      some_gives Whatever More m d (λ _. tt) 10 (least_free e d.caps) _ (λ f is.
      zero_gives Whatever More m f _
      (give_gives Whatever More (zeroed_frame m f) _
      (slot_more a 0 (Some (fresh_cap b f)) (zeroed_frame m f) (fresh_loose (nat_eq b 0) f) (zeroed e d m h f is)))))))

  install_more : (a b : ℕ) → Gives Whatever More (install e d a b m)
  unfolding install
  install_more a b =
      filled_gives Whatever More m d (λ _. tt) a _ (λ _ c _.
      some_gives Whatever More m d (λ _. tt) 5 (table_in c) _ (λ t is.
      check_gives Whatever More m d (λ _. tt) 7 _ _ (λ _.
      check_gives Whatever More m d (λ _. tt) 8 _ _ (λ _.
      table_refusal_gives Whatever More m e.root b _
      (allowed_gives Whatever More m d (λ _. tt) (install_refusal m e.root b) _ (λ none.
      install_gives Whatever More m e.root b t.frame _
      (give_gives Whatever More (installed m e.root b t.frame) _
      (slot_more a 0 (noted (Some c) (Some b)) (installed m e.root b t.frame)
      (subst (λ (y : Cap). IsLoose (noted (Some y) (Some b))) (sym (table_in_is c t is))
      (record { not_mapped = λ f r va no. cc no }))
      (table_installed e d m h b t.frame (install_allowed m e.root b none))))))))))

  copy_more : (a b c : ℕ) → Gives Whatever More (copy d a b c m)
  unfolding copy is_slot
  copy_more a b c =
      check_gives Whatever More m d (λ _. tt) 2 _ _ (λ _.
      check_gives Whatever More m d (λ _. tt) 2 _ _ (λ _.
      some_gives Whatever More m d (λ _. tt) 3 (cap_at d.caps a) _ (λ x _.
      check_gives Whatever More m d (λ _. tt) 4 _ _ (λ _.
      unless_gives Whatever More m d (λ _. tt) (copy_refusal x c) _ (λ _.
      give_gives Whatever More m _ (slot_more b 0 (copied (Some x) c) m (copied_loose x c) (nothing_written e d m h)))))))

-- ---- leaves that stay are within rights as before

module _ (e : Estate) (d : Dom) (m : Mem) (w : AreWithin e d m) where
  -- one leaf as it was
  leaf_same : (n : Mem) (f r va : ℕ) (i : IsWithin e m f r va) → has_table n e.root va ≡ true
      → second_entry n e.root va ≡ second_entry m e.root va → IsWithin e n f r va
  leaf_same n f r va i table same =
      record { table = table; given = i.given; good = i.good; within = i.within; leaf = same ∙ i.leaf }

  leaf_kept : (n : Mem) (f r va : ℕ) → KeepsEntries m n e.root → IsWithin e m f r va → IsWithin e n f r va
  leaf_kept n f r va k i =
      leaf_same n f r va i (ap valid (k.pointer (vpn_1 va) i.table) ∙ i.table)
      (k.leaf (vpn_1 va) (vpn_0 va) i.table (ap valid i.leaf ∙ valid-leaf f i.given i.good))

  kept_within : (x : Dom) (n : Mem) → KeepsEntries m n e.root → OldMaps d x → AreWithin e x n
  kept_within x n k o = record { each = λ i f r va is. leaf_kept n f r va k (w.each i f r va (o.each i f r va is)) }

  less_within : (x : Dom) (n : Mem) → Kept e x n → IsLess e d m x n → AreWithin e x n
  unfolding claim_of entry_places
  less_within x n h l = record {
    each = λ i f r va is.
        let old : IsWithin e m f r va = w.each i f r va (l.maps.each i f r va is) in
        let there : has_table n e.root va ≡ true = (ready e x n h).mapped i f r va is in
        let claim : claims e x.caps i ≡ Claim.Leaf true f (Some (vpn_1 va, vpn_0 va)) = claim_at e x.caps i (cap.Frame f r (Some va)) is in
        let at : IsMapped (claims e x.caps) n f (vpn_1 va) (vpn_0 va) = h.facts.mapped i true f (vpn_1 va) (vpn_0 va) claim in
        let frame : table_of n e.root va ≡ at.frame =
        ap ppn (h.facts.installed at.slot at.frame (vpn_1 va) at.claim) ∙ ppn-table at.frame in
        let entry : second_entry n e.root va ≡ leaf_word f at.rights =
        ap (λ (g : ℕ). word n g (vpn_0 va)) frame ∙ at.entry_is in
        leaf_same n f r va old there
        (l.leaves.was (vpn_1 va) (vpn_0 va) there (ap valid entry ∙ valid-leaf f at.rights at.good));
  }

  -- ---- MAP

  module _ (h : Kept e d m) (a b c : ℕ) where
    abbrev Within : Dom → Mem → Type 0
    Within x n = AreWithin e x n

    map_slot : (page : Page) → cap_at d.caps a ≡ Some (cap.Frame page.frame page.rights page.mapped)
        → may_give page.rights c ≡ true
        → map_refusal m e.root b ≡ None
        → Within (done 0
        (with_slot d a (noted (Some (cap.Frame page.frame page.rights page.mapped)) (Some b))))
        (mapped m e.root b page.frame c)
    unfolding replied placed with_caps
    map_slot page there may none =
        let can : CanTake m e.root b = map_allowed m e.root b none in
        let n : Mem = mapped m e.root b page.frame c in
        let keeps : KeepsEntries m n e.root = page_mapped e d m h b page.frame c can in
        let new : IsWithin e n page.frame page.rights b = record {
          table =
              ap valid (first_in m e.root e.share.frames b (leaf_word page.frame c)
              (page_tables e d m h).map can.table b refl) ∙ can.table;
          given = c;
          good = (and_parts (are_good c) (is_within c page.rights) may).0;
          within = (and_parts (are_good c) (is_within c page.rights) may).1;
          leaf = second_in m e.root e.share.frames b (leaf_word page.frame c) (page_tables e d m h).map can.table b refl;
        } in
        record {
          each = λ i f r va is. elim (cap_by d.caps a i (Some (cap.Frame page.frame page.rights (Some b))) (cap.Frame f r (Some va)) is) [
            | inl here ↦
                let f_is : page.frame ≡ f = cc here.1 in
                let r_is : page.rights ≡ r = cc here.1 in
                let va_is : b ≡ va = cc here.1 in
                subst (λ (k : ℕ). IsWithin e n f r k) va_is
                (subst (λ (k : ℕ). IsWithin e n f k b) r_is (subst (λ (k : ℕ). IsWithin e n k page.rights b) f_is new))
            | inr old ↦ leaf_kept n f r va keeps (w.each i f r va old.1)
          ];
        }

    map_within : Gives Whatever Within (map_page e d a b c m)
    unfolding map_page
    map_within =
        filled_gives Whatever Within m d (λ _. tt) a _ (λ _ x there.
        some_gives Whatever Within m d (λ _. tt) 5 (page_in x) _ (λ page is.
        check_gives Whatever Within m d (λ _. tt) 6 _ _ (λ may.
        check_gives Whatever Within m d (λ _. tt) 7 _ _ (λ _.
        check_gives Whatever Within m d (λ _. tt) 8 _ _ (λ _.
        page_refusal_gives Whatever Within m e.root b _
        (allowed_gives Whatever Within m d (λ _. tt) (map_refusal m e.root b) _ (λ none.
        map_gives Whatever Within m e.root b page.frame c _
        (give_gives Whatever Within (mapped m e.root b page.frame c) _
        (subst (λ (y : Cap).
        Within (done 0 (with_slot d a (noted (Some y) (Some b)))) (mapped m e.root b page.frame c))
        (sym (page_in_is x page is))
        (map_slot page (there ∙ ap Some (page_in_is x page is)) may none))))))))))

  -- ---- all of them

  module _ (h : Kept e d m) where
    -- where the facts hold after it, all is within rights
    abbrev Then : Dom → Mem → Type 0
    Then x n = Kept e x n → AreWithin e x n

    weaker : (P : Dom → Mem → Type 0) (r : Done Mem Note Dom Dom) → Gives Whatever P r
        → ((x : Dom) (n : Mem) → P x n → Then x n)
        → Gives Whatever Then r
    weaker P r g f = record { ends = by_value r.value g.ends }
      where
        by_value : (v : Dom ⊎ Dom) → Ends Whatever P v r.state → Ends Whatever Then v r.state
        by_value (inl x) q = tt
        by_value (inr x) q = f x r.state q

    by_less : (r : Done Mem Note Dom Dom) → Gives Whatever (Less e d m) r → Gives Whatever Then r
    by_less r g = weaker (Less e d m) r g (λ x n l k. less_within x n k l)

    by_more : (r : Done Mem Note Dom Dom) → Gives Whatever (More e d m h) r → Gives Whatever Then r
    by_more r g = weaker (More e d m h) r g (λ x n o k. kept_within x n o.entries o.maps)

    same_caps : (x : Dom) → x.caps ≡ d.caps → Then x m
    same_caps x same k = let o = same_more e d m h x same in kept_within x m o.entries o.maps

    exit_then : (a : ℕ) → Gives Whatever Then (give (exited a d) m)
    unfolding exited
    exit_then a = give_gives Whatever Then m _ (same_caps (exited a d) refl)

    call_then : (number a b c : ℕ) → Gives Whatever Then (call_of e d number a b c m)
    unfolding call_of
    call_then number a b c =
        if_gives Whatever Then m (nat_eq number 0) _ _ (λ _. exit_then a)
        (if_gives Whatever Then m (nat_eq number 1) _ _ (λ _. by_more _ (put_more e d m h a))
        (if_gives Whatever Then m (nat_eq number 2) _ _ (λ _. by_more _ (alloc_more e d m h a b))
        (if_gives Whatever Then m (nat_eq number 3) _ _ (λ _. by_more _ (install_more e d m h a b))
        (if_gives Whatever Then m (nat_eq number 4) _ _
        (λ _. weaker (Within h a b c) _ (map_within h a b c) (λ x n within k. within))
        (if_gives Whatever Then m (nat_eq number 5) _ _ (λ _. by_less _ (unmap_less e d m a))
        (if_gives Whatever Then m (nat_eq number 6) _ _ (λ _. by_more _ (copy_more e d m h a b c))
        (if_gives Whatever Then m (nat_eq number 7) _ _ (λ _. by_less _ (delete_less e d m a))
        (if_gives Whatever Then m (nat_eq number 8) _ _ (λ _. by_less _ (revoke_less e d m a))
        (quiet_gives Whatever Then d (λ _. tt) m _ (later_quiet d number a b) (λ x same. same_caps x same))))))))))

    refused_within : (code : ℕ) → AreWithin e (refused code d) m
    unfolding replied placed
    refused_within code = record { each = w.each }

    module _ (number a b c : ℕ) (k : LeavesKept e (call_of e d number a b c m)) where
      by_end : (v : Dom ⊎ Dom) → (call_of e d number a b c m).value ≡ v
          → Kept e (either v) (call_of e d number a b c m).state
          → AreWithin e (either v) (call_of e d number a b c m).state
      unfolding either
      by_end (inl x) is after =
          let r = (call_of_tidy e d number a b c).ends m x is in
          subst (λ (n : Mem). AreWithin e x n) (sym r.memory)
          (subst (λ (y : Dom). AreWithin e y m) (sym r.reply) (refused_within r.code))
      by_end (inr x) is after = given Whatever Then (call_of e d number a b c m) (call_then number a b c) x is after

      call_within : AreWithin e (either (call_of e d number a b c m).value) (call_of e d number a b c m).state
      call_within = by_end (call_of e d number a b c m).value refl k

pub calls_within : CallsWithinLaw
unfolding call
calls_within e d m s h w =
    let regs = d.threads.current.regs in
    call_within e d m w h (number_made e d) (register regs 10) (register regs 11) (register regs 12)
    (call_of_keeps e d m (number_made e d) (register regs 10) (register regs 11) (register regs 12) s h)

pub nothing_mapped : NothingMappedLaw
nothing_mapped e d m none = record {
  each = λ i f r va is. let no : Some va ≡ None = sym (ap mapped_at is) ∙ none i in absurd (cc no);
}

-- ---- stores

pub stores_within : StoresWithinLaw
stores_within e d m f i v h w page = record {
  each = λ j g r va is.
      let old : IsWithin e m g r va = w.each j g r va is in
      let root : (q : ℕ) → word (written m f i v) e.root q ≡ word m e.root q =
      λ q. word-written_frame m f i v e.root q (λ same. page.apart.no_root (sym same)) in
      leaf_same e d m w (written m f i v) g r va old (ap valid (root (vpn_1 va)) ∙ old.table)
      (ap (λ (x : ℕ). word (written m f i v) (ppn x) (vpn_0 va)) (root (vpn_1 va))
      ∙ word-written_frame m f i v (table_of m e.root va) (vpn_0 va)
      (page.apart.no_table.unnamed (vpn_1 va) (vpn_1-below va) old.table));
}

-- ---- walks

-- the rights that a leaf was given permit no access that the capability's do not
permits_more : (access : Access) (c r : ℕ) → is_within c r ≡ true → rights_permit c access ≡ true
    → rights_permit r access ≡ true
unfolding rights_permit
permits_more access c r within permits = by_access access permits
  where
    one : (x y : ℕ) → nat_le x y ≡ true → y < 2 → nat_eq x 1 ≡ true → nat_eq y 1 ≡ true
    one x y le below is =
        let le_is : x ≤ y = leb-true x y le in
        let x_is : x ≡ 1 = eqb-true x 1 is in
        eq-eqb y 1 (omega (arith, le_is, x_is, below))

    by_access : (z : Access) → rights_permit c z ≡ true → rights_permit r z ≡ true
    by_access Load p = one (c % 2) (r % 2) (and_parts _ _ within).0 (omega arith) p
    by_access Store p = one (c / 2 % 2) (r / 2 % 2) (and_parts _ _ (and_parts _ _ within).1).0 (omega arith) p
    by_access Fetch p = one (c / 4 % 2) (r / 4 % 2) (and_parts _ _ (and_parts _ _ within).1).1 (omega arith) p

-- a capability that claims a page at a place is mapped there
record MappedAt (c : Option Cap) (f r t : ℕ) : Type 0 where
  rights : ℕ
  at : ℕ
  is : c ≡ Some (cap.Frame f rights (Some at))
  root : vpn_1 at ≡ r
  table : vpn_0 at ≡ t

mapped_claim : (c : Option Cap) (b : Bool) (f r t : ℕ) → claim_of c ≡ Claim.Leaf b f (Some (r, t))
    → MappedAt c f r t
unfolding claim_of entry_places
mapped_claim None b f r t is = absurd (cc is)
mapped_claim (Some (cap.Irq line)) b f r t is = absurd (cc is)
mapped_claim (Some (cap.Table g v)) b f r t is = absurd (cc is)
mapped_claim (Some (cap.Frame g s None)) b f r t is = absurd (cc is)
mapped_claim (Some (cap.Frame g s (Some va))) b f r t is =
    let frame : g ≡ f = cc is in
    let place = same_place true b g f (vpn_1 va) (vpn_0 va) r t is in
    record {
      rights = s;
      at = va;
      is = ap (λ (k : ℕ). Some (cap.Frame k s (Some va))) frame;
      root = place.0;
      table = place.1;
    }

module _ (e : Estate) (d : Dom) (m : Mem) (va leaf : ℕ) (access : Access) (h : Kept e d m) (w : AreWithin e d m) where
  may_reach : HasLeaf m e.share.frames e.root va access leaf → MayReach e d va (ppn leaf) access
  may_reach (big b within is) =
      let t = h.facts.tables (vpn_1 va) b.allowed.is_valid in
      absurd (true≢false (sym b.allowed.is_user ∙ ap user t.entry_is ∙ (points-table t.frame).no_user))
  may_reach (small q within is) =
      let l = leaf_entry e.root (is_mine e) (claims e d.caps) m h.facts (vpn_1 va) (vpn_0 va) q.pointer.is_valid q.allowed.is_valid in
      let frame : l.frame ≡ ppn leaf =
      sym (leaf_frame (claims e d.caps) (second_entry m e.root va) (vpn_1 va) (vpn_0 va) l) ∙ ap ppn (sym is) in
      subst (λ (f : ℕ). MayReach e d va f access) frame
      (elim (cases_lt l.slot (length d.caps)) [
        | inl below ↦
            let c : MappedAt (cap_at d.caps l.slot) l.frame (vpn_1 va) (vpn_0 va) =
            mapped_claim (cap_at d.caps l.slot) l.by_cap l.frame (vpn_1 va) (vpn_0 va)
            (sym (claim_within e d.caps l.slot below) ∙ l.claim) in
            let i : IsWithin e m l.frame c.rights c.at = w.each l.slot l.frame c.rights c.at c.is in
            let same : second_entry m e.root c.at ≡ second_entry m e.root va =
            ap₂ (λ (r t : ℕ). word m (ppn (word m e.root r)) t) c.root c.table in
            let entry : second_entry m e.root va ≡ leaf_word l.frame i.given = sym same ∙ i.leaf in
            let allowed : permits access (leaf_word l.frame i.given) ≡ true =
            allowed-permits access (leaf_word l.frame i.given) (subst (Allows access) entry q.allowed) in
            let given_right : rights_permit i.given access ≡ true = sym (permits-leaf l.frame i.given access i.good) ∙ allowed in
            by_cap l.slot c.rights c.at c.is c.root c.table (permits_more access i.given c.rights i.within given_right)
        | inr past ↦
            for_good (l.slot - length d.caps) l.by_cap (sym (claim_past e d.caps l.slot past) ∙ l.claim)
      ])

pub walks_within : WalksWithinLaw
walks_within e d m va leaf access h w is =
    may_reach e d m va leaf access h w ((leaf_in_words m e.share.frames e.root va access leaf).0 is)
