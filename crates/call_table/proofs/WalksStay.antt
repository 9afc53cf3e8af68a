-- A call that doesn't empty the translation buffer writes no valid entry of the page tables, so walks to leaves stay.
use Rattle.std.proofs.Common.{◌≡◌, ◌≢◌, ◌∙◌, ◌⊎◌, ap, sym, subst, refl, inl, inr, ℕ, ◌*◌, ◌+◌, ◌^◌, ◌<◌, true, false, true≢false, eqb-true, Some}
use Rattle.std.specs.Prelude.{nat_eq, Ok}
use Rattle.tp_base.specs.Act.{give}
use Rattle.phys_mem.specs.Mem.{Mem, word, zeroed_frame, word-written_place, word-written_frame, word-zeroed_other}
use Rattle.rv_core.specs.Registers.{register}
use Rattle.sv32_walk.specs.declared.access.Access.{Access}
use Rattle.sv32_walk.specs.PageTableEntry.{valid, ppn, ppn_0, ppn_1, with_ppn, vpn_0, vpn_1, leaf_word, table_word}
use Rattle.sv32_walk.specs.Walk.{walk}
use Rattle.sv32_walk.specs.Translation.{first_entry, second_entry, Points, Allows, HasLeaf, big, small}
use Rattle.sv32_walk.proofs.WalkLemmas.{leaf_in_words}
use Rattle.page_map.specs.Tables.{has_table, table_of, map_refusal, install_refusal}
use Rattle.page_map.specs.Reached.{leaf_at as entry_at}
use Rattle.page_map.specs.Changes.{mapped, installed}
use Rattle.page_map.proofs.KeptLemmas.{at_write, root_stays}
use Rattle.cap_table.specs.Slots.{cap_at}
use Rattle.call_table.specs.Domain.{Dom, exited}
use Rattle.call_table.specs.Claims.{Estate, is_mine, claims, frame_of, least_free}
use Rattle.call_table.specs.Calls.{empties, clears_entries, is_slot, page_in, table_in, copy_refusal, put_byte, alloc, install, map_page, copy, call_of, call, number_made}
use Rattle.call_table.specs.Laws.{Kept, KeepsWalks, WalksStayLaw}
use Rattle.call_table.proofs.ClaimLawsSlots.{IsFree, least_is_free, unnamed}
use Rattle.call_table.proofs.TablesClaims.{root_frame, table_frame, table_not_root}
use Rattle.call_table.proofs.TablesMeaning.{page_tables}
use Rattle.call_table.proofs.QuietCalls.{later_quiet}
use Rattle.call_table.proofs.CallLaws.{CanTake, map_allowed, install_allowed}
use Rattle.call_table.proofs.MeaningSteps.{Whatever, Gives, given, give_gives, if_gives, quiet_gives, zero_gives, map_gives, install_gives, page_refusal_gives, table_refusal_gives, check_gives, some_gives, filled_gives, allowed_gives, unless_gives}
use Rattle.call_table.proofs.Refusals.{call_of_tidy}
use Rattle.call_table.proofs.WorkSteps.{IsWork, emptied_by}
use Rattle.call_table.proofs.BoundedWork.{call_of_works}

-- ---- valid entries that stay keep walks to leaves

-- each valid entry of the root, and of the tables that it points to, is as it was
pub record KeepsEntries (m k : Mem) (root : ℕ) : Type 0 where
  pub pointer : (r : ℕ) → valid (word m root r) ≡ true → word k root r ≡ word m root r
  pub leaf : (r t : ℕ) → valid (word m root r) ≡ true → valid (entry_at m root r t) ≡ true
      → entry_at k root r t ≡ entry_at m root r t

module _ (m k : Mem) (frames root va : ℕ) (access : Access) (leaf : ℕ) (s : KeepsEntries m k root) where
  leaf_stays : HasLeaf m frames root va access leaf → HasLeaf k frames root va access leaf
  leaf_stays (big b within is) =
      let first : first_entry k root va ≡ first_entry m root va = s.pointer (vpn_1 va) b.allowed.is_valid in
      big
      (record { in_root = b.in_root; allowed = subst (Allows access) (sym first) b.allowed; aligned = ap ppn_0 first ∙ b.aligned })
      (subst (λ (w : ℕ). ppn_1 w * 2 ^ 10 + vpn_0 va < frames) (sym first) within)
      (is ∙ ap (λ (w : ℕ). with_ppn w (ppn_1 w * 2 ^ 10 + vpn_0 va)) (sym first))
  leaf_stays (small q within is) =
      let first : first_entry k root va ≡ first_entry m root va = s.pointer (vpn_1 va) q.pointer.is_valid in
      let second : second_entry k root va ≡ second_entry m root va =
      s.leaf (vpn_1 va) (vpn_0 va) q.pointer.is_valid q.allowed.is_valid in
      small
      (record {
        in_root = q.in_root;
        pointer = subst Points (sym first) q.pointer;
        in_table = subst (λ (w : ℕ). ppn w < frames) (sym first) q.in_table;
        allowed = subst (Allows access) (sym second) q.allowed;
      })
      (subst (λ (w : ℕ). ppn w < frames) (sym second) within)
      (is ∙ sym second)

  walk_stays : (walk m frames root va access).result ≡ Ok leaf
      → (walk k frames root va access).result ≡ Ok leaf
  walk_stays e = (leaf_in_words k frames root va access leaf).1 (leaf_stays ((leaf_in_words m frames root va access leaf).0 e))

walks_by_entries : (e : Estate) (m k : Mem) → KeepsEntries m k e.root → KeepsWalks e m k
walks_by_entries e m k s = record { each = λ va leaf access is. walk_stays m k e.share.frames e.root va access leaf s is }

pub same_walks : (e : Estate) (m k : Mem) → k ≡ m → KeepsWalks e m k
same_walks e m k same = subst (KeepsWalks e m) (sym same) (record { each = λ va leaf access is. is })

-- ---- what each call writes

module _ (e : Estate) (d : Dom) (m : Mem) (h : Kept e d m) where
  tables_apart : (r : ℕ) → valid (word m e.root r) ≡ true → ppn (word m e.root r) ≢ e.root
  tables_apart = table_not_root e.root (is_mine e) (claims e d.caps) m h.facts

  -- the entry of a table, where the root's is as it was
  entry_by : (k : Mem) (r t : ℕ) → word k e.root r ≡ word m e.root r
      → word k (ppn (word m e.root r)) t ≡ entry_at m e.root r t → entry_at k e.root r t ≡ entry_at m e.root r t
  entry_by k r t same entry = ap (λ (w : ℕ). word k (ppn w) t) same ∙ entry

  pub nothing_written : KeepsEntries m m e.root
  nothing_written = record { pointer = λ r ok. refl; leaf = λ r t r_ok ok. refl }

  -- a free frame is neither the root nor a table
  pub zeroed : (f : ℕ) → least_free e d.caps ≡ Some f → KeepsEntries m (zeroed_frame m f) e.root
  unfolding frame_of
  zeroed f is =
      let free : IsFree e d.caps f = least_is_free e d.caps f is in
      let no_root : e.root ≢ f =
      λ same. unnamed e d.caps f free.not_named h.facts.root_slot
      (root_frame e.root (is_mine e) (claims e d.caps) m h.facts ∙ ap Some same) in
      let no_table : (r : ℕ) → valid (word m e.root r) ≡ true → ppn (word m e.root r) ≢ f =
      λ r ok same. unnamed e d.caps f free.not_named (h.facts.tables r ok).slot
      (ap frame_of (h.facts.tables r ok).claim ∙ ap Some (sym (table_frame e.root (is_mine e) (claims e d.caps) m h.facts r ok) ∙ same)) in
      record {
        pointer = λ r ok. word-zeroed_other m f e.root r no_root;
        leaf = λ r t r_ok ok.
            entry_by (zeroed_frame m f) r t (word-zeroed_other m f e.root r no_root)
            (word-zeroed_other m f (ppn (word m e.root r)) t (no_table r r_ok));
      }

  -- where a table is installed, nothing was valid
  pub table_installed : (b f : ℕ) → has_table m e.root b ≡ false
      → KeepsEntries m (installed m e.root b f) e.root
  table_installed b f none =
      let other : (r : ℕ) → valid (word m e.root r) ≡ true → r ≢ vpn_1 b =
      λ r ok same. true≢false (sym ok ∙ ap (λ (i : ℕ). valid (word m e.root i)) same ∙ none) in
      let pointer : (r : ℕ) → valid (word m e.root r) ≡ true → word (installed m e.root b f) e.root r ≡ word m e.root r =
      λ r ok. word-written_place m e.root (vpn_1 b) (table_word f) r (other r ok) in
      record {
        pointer = pointer;
        leaf = λ r t r_ok ok.
            entry_by (installed m e.root b f) r t (pointer r r_ok)
            (word-written_frame m e.root (vpn_1 b) (table_word f) (ppn (word m e.root r)) t (tables_apart r r_ok));
      }

  -- where a page is mapped, no leaf was valid
  pub page_mapped : (b f c : ℕ) → CanTake m e.root b → KeepsEntries m (mapped m e.root b f c) e.root
  page_mapped b f c can =
      let pointer : (r : ℕ) → word (mapped m e.root b f c) e.root r ≡ word m e.root r =
      λ r. root_stays m e.root e.share.frames b (page_tables e d m h).map can.table (vpn_0 b) (leaf_word f c) r in
      record {
        pointer = λ r ok. pointer r;
        leaf = λ r t r_ok ok.
            entry_by (mapped m e.root b f c) r t (pointer r)
            (elim (at_write m (table_of m e.root b) (vpn_0 b) (leaf_word f c) (ppn (word m e.root r)) t) [
              | inl here ↦
                  let was : valid (second_entry m e.root b) ≡ true =
                  ap (λ (i : ℕ). valid (word m (table_of m e.root b) i)) (sym here.1)
                  ∙ ap (λ (g : ℕ). valid (word m g t)) (sym here.0) ∙ ok in
                  absurd (true≢false (sym was ∙ can.no_page))
              | inr there ↦ there
            ]);
      }

  -- ---- each call that is done

  abbrev Stays : Dom → Mem → Type 0
  Stays x n = KeepsEntries m n e.root

  gives_same : (x : Dom) → Gives Whatever Stays (give x m)
  gives_same x = give_gives Whatever Stays m x nothing_written

  put_stays : (a : ℕ) → Gives Whatever Stays (put_byte d a m)
  unfolding put_byte
  put_stays a = check_gives Whatever Stays m d (λ _. tt) 11 _ _ (λ _. gives_same _)

  alloc_stays : (a b : ℕ) → Gives Whatever Stays (alloc e d a b m)
  unfolding alloc is_slot
  alloc_stays a b =
      check_gives Whatever Stays m d (λ _. tt) 2 _ _ (λ _.
      check_gives Whatever Stays m d (λ _. tt) 4 _ _ (λ _.
      check_gives Whatever Stays m d (λ _. tt) 5 _ _ (λ _.
      some_gives Whatever Stays m d (λ _. tt) 10 (least_free e d.caps) _ (λ f is.
      zero_gives Whatever Stays m f _
      (give_gives Whatever Stays (zeroed_frame m f) _ (zeroed f is))))))

  install_stays : (a b : ℕ) → Gives Whatever Stays (install e d a b m)
  unfolding install
  install_stays a b =
      filled_gives Whatever Stays m d (λ _. tt) a _ (λ _ x is.
      some_gives Whatever Stays m d (λ _. tt) 5 (table_in x) _ (λ table in_x.
      check_gives Whatever Stays m d (λ _. tt) 7 _ _ (λ _.
      check_gives Whatever Stays m d (λ _. tt) 8 _ _ (λ _.
      table_refusal_gives Whatever Stays m e.root b _
      (allowed_gives Whatever Stays m d (λ _. tt) (install_refusal m e.root b) _ (λ none.
      install_gives Whatever Stays m e.root b table.frame _
      (give_gives Whatever Stays (installed m e.root b table.frame) _
      (table_installed b table.frame (install_allowed m e.root b none)))))))))

  map_stays : (a b c : ℕ) → Gives Whatever Stays (map_page e d a b c m)
  unfolding map_page
  map_stays a b c =
      filled_gives Whatever Stays m d (λ _. tt) a _ (λ _ x is.
      some_gives Whatever Stays m d (λ _. tt) 5 (page_in x) _ (λ page in_x.
      check_gives Whatever Stays m d (λ _. tt) 6 _ _ (λ _.
      check_gives Whatever Stays m d (λ _. tt) 7 _ _ (λ _.
      check_gives Whatever Stays m d (λ _. tt) 8 _ _ (λ _.
      page_refusal_gives Whatever Stays m e.root b _
      (allowed_gives Whatever Stays m d (λ _. tt) (map_refusal m e.root b) _ (λ none.
      map_gives Whatever Stays m e.root b page.frame c _
      (give_gives Whatever Stays (mapped m e.root b page.frame c) _
      (page_mapped b page.frame c (map_allowed m e.root b none))))))))))

  copy_stays : (a b c : ℕ) → Gives Whatever Stays (copy d a b c m)
  unfolding copy is_slot
  copy_stays a b c =
      check_gives Whatever Stays m d (λ _. tt) 2 _ _ (λ _.
      check_gives Whatever Stays m d (λ _. tt) 2 _ _ (λ _.
      some_gives Whatever Stays m d (λ _. tt) 3 (cap_at d.caps a) _ (λ x _.
      check_gives Whatever Stays m d (λ _. tt) 4 _ _ (λ _.
      unless_gives Whatever Stays m d (λ _. tt) (copy_refusal x c) _ (λ _. gives_same _)))))

  -- the calls that clear entries are others
  module _ (number : ℕ) (none : clears_entries number ≡ false) where
    other_number : {A : Type 0} (k : ℕ) → clears_entries k ≡ true → nat_eq number k ≡ true → A
    other_number k clears is = absurd (true≢false (sym clears ∙ ap clears_entries (sym (eqb-true number k is)) ∙ none))

    call_stays : (a b c : ℕ) → Gives Whatever Stays (call_of e d number a b c m)
    unfolding call_of
    call_stays a b c =
        if_gives Whatever Stays m (nat_eq number 0) _ _ (λ _. gives_same (exited a d))
        (if_gives Whatever Stays m (nat_eq number 1) _ _ (λ _. put_stays a)
        (if_gives Whatever Stays m (nat_eq number 2) _ _ (λ _. alloc_stays a b)
        (if_gives Whatever Stays m (nat_eq number 3) _ _ (λ _. install_stays a b)
        (if_gives Whatever Stays m (nat_eq number 4) _ _ (λ _. map_stays a b c)
        (if_gives Whatever Stays m (nat_eq number 5) _ _ (λ is. other_number 5 refl is)
        (if_gives Whatever Stays m (nat_eq number 6) _ _ (λ _. copy_stays a b c)
        (if_gives Whatever Stays m (nat_eq number 7) _ _ (λ is. other_number 7 refl is)
        (if_gives Whatever Stays m (nat_eq number 8) _ _ (λ is. other_number 8 refl is)
        (quiet_gives Whatever Stays d (λ _. tt) m _ (later_quiet d number a b) (λ x _. nothing_written))))))))))

  module _ (number a b c : ℕ) (quiet : empties (call_of e d number a b c m).notes ≡ false) where
    -- refused, so memory is as it was; or done, and no call that clears entries
    walks_by : (v : Dom ⊎ Dom) → (call_of e d number a b c m).value ≡ v
        → KeepsWalks e m (call_of e d number a b c m).state
    walks_by (inl x) is = same_walks e m _ ((call_of_tidy e d number a b c).ends m x is).memory
    walks_by (inr x) is =
        let w : IsWork d number (call_of e d number a b c m).value (call_of e d number a b c m).notes =
        (call_of_works e d number a b c).each m in
        let none : clears_entries number ≡ false =
        ap (emptied_by (clears_entries number)) (sym is) ∙ sym w.buffer ∙ quiet in
        walks_by_entries e m _ (given Whatever Stays (call_of e d number a b c m) (call_stays number none a b c) x is)

    pub call_of_keeps_walks : KeepsWalks e m (call_of e d number a b c m).state
    call_of_keeps_walks = walks_by (call_of e d number a b c m).value refl

pub walks_stay : WalksStayLaw
unfolding call
walks_stay e d m h quiet =
    let regs = d.threads.current.regs in
    call_of_keeps_walks e d m h (number_made e d) (register regs 10) (register regs 11) (register regs 12) quiet
