-- Each call over two memories that are equal in the domain's own frames does the same, and within those frames alone.
use Rattle.std.proofs.Common.{◌≡◌, ◌≢◌, ◌∙◌, ap, subst, refl, inl, inr, ℕ, Bool, true, false, not, cond, lt-ltb, ◌||◌, List, [], ◌∷◌, Option, Some, None}
use Rattle.std.specs.Prelude.{filter, nat_eq, slice_get, if◌then◌else◌}
use Rattle.std.specs.List.{range_with_len}
use Rattle.tp_base.specs.Act.{go_on, ◌>>=◌, ◌>>◌, give, stop}
use Rattle.phys_mem.specs.Mem.{Mem, word, zeroed_frame}
use Rattle.sv32_walk.specs.PageTableEntry.{valid, vpn_1}
use Rattle.page_map.specs.Tables.{has_table, map_refusal, install_refusal}
use Rattle.page_map.proofs.KeptLemmas.{unrefused_table}
use Rattle.rv_core.specs.Registers.{register}
use Rattle.frame_colours.specs.Colours.{IsOwn, has, pool}
use Rattle.frame_colours.proofs.Pools.{IsOwn-pool}
use Rattle.frame_colours.proofs.Ascending.{has_head}
use Rattle.cap_table.specs.declared.Cap.{Cap}
use Rattle.cap_table.specs.declared.Cap.TheVariants as cap
use Rattle.cap_table.specs.Slots as slots
use Rattle.cap_table.specs.Slots.{Slots, cap_at, mapped_at, is_revoked, push_some}
use Rattle.call_table.specs.Domain.{Dom, refused, exited, with_caps}
use Rattle.call_table.specs.Claims.{Estate, is_mine, claims, claim_of, entry_places, is_named, free_frames, least_free}
use Rattle.call_table.specs.Calls.{Act, Page, is_slot, page_in, table_in, put_byte, with_slot, alloc, install, map_page, unmap, copy, copy_refusal, unless_refused, drop_slot, delete, emptied_at, unmap_all, revoke, call_of, call, number_made}
use Rattle.call_table.specs.Laws.{IsMine, Kept, SameMine, IsConfined}
use Rattle.call_table.proofs.TablesClaims.{some_same, own_root, table_own, table_not_root, valid-table}
use Rattle.call_table.proofs.TablesSlots.{claim_at, cap_by}
use Rattle.call_table.proofs.QuietCalls.{later_quiet}
use Rattle.call_table.proofs.ConfinedSteps.{Any, Beside, Alike, bind_alike, quiet_alike, give_alike, stop_alike, check_alike, some_alike, filled_alike, allowed_alike, buffer_alike}
use Rattle.call_table.proofs.ConfinedTables.{OwnTables, same_tables, zero_alike, page_refusal_alike, table_refusal_alike, map_alike, unmap_alike, install_alike, clear_alike}

-- ---- what the facts give

-- the tables are the domain's own, and where a page is mapped through a slot, there is one
pub record Ready (e : Estate) (d : Dom) (m : Mem) : Type 0 where
  pub tables : OwnTables e m
  pub mapped : (i f rights va : ℕ) → cap_at d.caps i ≡ Some (cap.Frame f rights (Some va))
      → has_table m e.root va ≡ true

module _ (e : Estate) (d : Dom) (m : Mem) (h : Kept e d m) where
  mapped_claim : (i f rights va : ℕ) → cap_at d.caps i ≡ Some (cap.Frame f rights (Some va))
      → has_table m e.root va ≡ true
  unfolding claim_of entry_places
  mapped_claim i f rights va is =
      let l = h.facts.mapped i true f _ _ (claim_at e d.caps i (cap.Frame f rights (Some va)) is) in
      ap valid (h.facts.installed l.slot l.frame (vpn_1 va) l.claim) ∙ valid-table l.frame

  pub ready : Ready e d m
  ready = record {
    tables = record {
      root = own_root e.root (is_mine e) (claims e d.caps) m h.facts;
      own = table_own e.root (is_mine e) (claims e d.caps) m h.facts;
      apart = table_not_root e.root (is_mine e) (claims e d.caps) m h.facts;
    };
    mapped = mapped_claim;
  }

-- where the root is as it was, a slot less leaves all ready
pub still_ready : (e : Estate) (d : Dom) (m : Mem) → Ready e d m → (i : ℕ) (n : Mem)
    → ((q : ℕ) → word n e.root q ≡ word m e.root q)
    → Ready e (with_slot d i None) n
unfolding with_caps
still_ready e d m r i n same = record {
  tables = same_tables e m n same r.tables;
  mapped = λ j f rights va is. elim (cap_by d.caps i j None (cap.Frame f rights (Some va)) is) [
    | inl new ↦ absurd (cc (new.1))
    | inr old ↦ ap valid (same (vpn_1 va)) ∙ r.mapped j f rights va old.1
  ];
}

-- ---- the least free frame

pub first_kept : (p : ℕ → Bool) (xs : List ℕ) (f : ℕ) → slice_get (filter p xs) 0 ≡ Some f
    → (p f ≡ true) × (has xs f ≡ true)
first_kept p [] f e = absurd (cc e)
first_kept p (x ∷ xs) f e = by_test (p x) refl e (first_kept p xs f)
  where
    in_rest : (b : Bool) → has xs f ≡ true → b || has xs f ≡ true
    in_rest true h = refl
    in_rest false h = h

    by_test : (t : Bool) → p x ≡ t → slice_get (cond t (x ∷ filter p xs) (filter p xs)) 0 ≡ Some f
        → (slice_get (filter p xs) 0 ≡ Some f → (p f ≡ true) × (has xs f ≡ true)) → (p f ≡ true) × (has (x ∷ xs) f ≡ true)
    by_test true t e g =
        let same : x ≡ f = cc e in
        (subst (λ (g : ℕ). p g ≡ true) same t, subst (λ (g : ℕ). has (x ∷ xs) g ≡ true) same (has_head x xs))
    by_test false t e g = let rest = g e in (rest.0, in_rest (nat_eq x f) rest.1)

pub free_parts : (e : Estate) (caps : Slots) (f : ℕ) → least_free e caps ≡ Some f
    → (not (is_named e caps f) ≡ true) × (has (pool e.share) f ≡ true)
unfolding least_free free_frames
free_parts e caps f is = first_kept (λ f. not (is_named e caps f)) (pool e.share) f is

pub own_is_mine : (e : Estate) (f : ℕ) → IsOwn e.share f → IsMine e f
own_is_mine e f own = rw (lt-ltb f e.share.frames own.below, own.coloured) refl

pub free_mine : (e : Estate) (caps : Slots) (f : ℕ) → least_free e caps ≡ Some f → IsMine e f
free_mine e caps f is = own_is_mine e f (IsOwn-pool e.share f (free_parts e caps f is).1)

-- ---- each call

pub page_in_is : (c : Cap) (page : Page) → page_in c ≡ Some page
    → c ≡ cap.Frame page.frame page.rights page.mapped
page_in_is (cap.Frame g s v) page e = ap (λ (p : Page). cap.Frame p.frame p.rights p.mapped) (some_same e)
page_in_is (cap.Table g v) page e = absurd (cc e)
page_in_is (cap.Irq line) page e = absurd (cc e)

-- ---- where slots are mapped there are tables

-- for each of these addresses
abbrev pub HaveTables : Mem → ℕ → List ℕ → Type 0
HaveTables m root [] = Unit {0}
HaveTables m root (va ∷ vas) = (has_table m root va ≡ true) × HaveTables m root vas

pub still_have : (m n : Mem) (root : ℕ) (vas : List ℕ) → ((q : ℕ) → word n root q ≡ word m root q)
    → HaveTables m root vas → HaveTables n root vas
still_have m n root [] same h = tt
still_have m n root (va ∷ vas) same h = (ap valid (same (vpn_1 va)) ∙ h.0, still_have m n root vas same h.1)

pub have_tables : (e : Estate) (d : Dom) (m : Mem) → Ready e d m → (a : ℕ) (is : List ℕ)
    → HaveTables m e.root (slots.entries_in d.caps a is)
unfolding slots.entries_in
have_tables e d m r a [] = tt
have_tables e d m r a (i ∷ is) = by_slot (is_revoked d.caps a i) (cap_at d.caps i) refl (have_tables e d m r a is)
  where
    by_slot : (t : Bool) (c : Option Cap) → cap_at d.caps i ≡ c
        → HaveTables m e.root (slots.entries_in d.caps a is)
        → HaveTables m e.root (push_some (if t then mapped_at c else None) (slots.entries_in d.caps a is))
    by_slot false c there h = h
    by_slot true None there h = h
    by_slot true (Some (cap.Irq line)) there h = h
    by_slot true (Some (cap.Table f w)) there h = h
    by_slot true (Some (cap.Frame f rights None)) there h = h
    by_slot true (Some (cap.Frame f rights (Some va))) there h = (r.mapped i f rights va there, h)

module _ (e : Estate) (first : Mem) where
  -- what is said of each call
  abbrev Same : (x : Act Dom) (m k : Mem) → Type 0
  Same x m k = Alike e first Any (x m) (x k)

  module _ (d : Dom) (m k : Mem) (b : Beside e first m k) where
    put_alike : (a : ℕ) → Same (put_byte d a) m k
    unfolding put_byte
    put_alike a = check_alike e first Any m k b _ _ _ (λ _. give_alike e first Any m k b _ tt)

    alloc_alike : (a c : ℕ) → Same (alloc e d a c) m k
    unfolding alloc is_slot
    alloc_alike a c =
        check_alike e first Any m k b _ _ _ (λ _.
        check_alike e first Any m k b _ _ _ (λ _.
        check_alike e first Any m k b _ _ _ (λ _.
        some_alike e first Any m k b _ (least_free e d.caps) _ (λ f is.
        zero_alike e first m k b Any f _ (free_mine e d.caps f is) (λ z.
        give_alike e first Any (zeroed_frame m f) (zeroed_frame k f) z _ tt)))))

    unless_alike : (x : Dom) (r : Option ℕ) (y : Act Dom) → Same y m k → Same (unless_refused x r >> y) m k
    unfolding unless_refused ◌>>◌ ◌>>=◌ go_on give stop
    unless_alike x None y h = record { value = h.value; notes = h.notes; beside = h.beside; work = h.work; known = h.known }
    unless_alike x (Some code) y h =
        let n = stop_alike e first Any m k b (refused code x) in
        record { value = n.value; notes = n.notes; beside = n.beside; work = n.work; known = n.known }

    copy_alike : (a to c : ℕ) → Same (copy d a to c) m k
    unfolding copy is_slot
    copy_alike a to c =
        check_alike e first Any m k b _ _ _ (λ _.
        check_alike e first Any m k b _ _ _ (λ _.
        some_alike e first Any m k b _ (cap_at d.caps a) _ (λ x is.
        check_alike e first Any m k b _ _ _ (λ _.
        unless_alike d (copy_refusal x c) _ (give_alike e first Any m k b _ tt)))))

    module _ (r : Ready e d m) where
      install_call : (a va : ℕ) → Same (install e d a va) m k
      unfolding install
      install_call a va =
          filled_alike e first Any m k b d a _ (λ _ c is.
          some_alike e first Any m k b _ (table_in c) _ (λ x _.
          check_alike e first Any m k b _ _ _ (λ _.
          check_alike e first Any m k b _ _ _ (λ _.
          table_refusal_alike e first m k b Any r.tables va _
          (allowed_alike e first Any m k b d (install_refusal m e.root va) _ (λ _.
          install_alike e first m k b Any r.tables va x.frame _ (λ n l z.
          give_alike e first Any n l z _ tt)))))))

      map_call : (a va c : ℕ) → Same (map_page e d a va c) m k
      unfolding map_page
      map_call a va c =
          filled_alike e first Any m k b d a _ (λ _ x is.
          some_alike e first Any m k b _ (page_in x) _ (λ page _.
          check_alike e first Any m k b _ _ _ (λ _.
          check_alike e first Any m k b _ _ _ (λ _.
          check_alike e first Any m k b _ _ _ (λ _.
          page_refusal_alike e first m k b Any r.tables va _
          (allowed_alike e first Any m k b d (map_refusal m e.root va) _ (λ none.
          map_alike e first m k b Any r.tables va page.frame c _ (unrefused_table m e.root va none) (λ n l z.
          give_alike e first Any n l z _ tt))))))))

      unmap_call : (a : ℕ) → Same (unmap e d a) m k
      unfolding unmap
      unmap_call a =
          filled_alike e first Any m k b d a _ (λ _ c is.
          some_alike e first Any m k b _ (page_in c) _ (λ page in_c.
          some_alike e first Any m k b _ page.mapped _ (λ va at.
          unmap_alike e first m k b Any r.tables va _
          (r.mapped a page.frame page.rights va
          (is ∙ ap Some (page_in_is c page in_c ∙ ap (λ w. cap.Frame page.frame page.rights w) at)))
          (λ n l _ z.
          buffer_alike e first Any n l z _
          (give_alike e first Any n l z _ tt)))))

      -- a slot that is dropped
      drop_call : (P : Dom → Mem → Type 0) (i : ℕ)
          → ((n : Mem)
          → (((f : ℕ) (w : Option ℕ) → cap_at d.caps i ≢ Some (cap.Table f w)) → (q : ℕ)
          → word n e.root q ≡ word m e.root q) → P (with_slot d i None) n)
          → Alike e first P (drop_slot e i d m) (drop_slot e i d k)
      unfolding drop_slot
      drop_call P i known =
          clear_alike e first m k b P r.tables (cap_at d.caps i) _ (λ f rights va. r.mapped i f rights va) (λ n l same z.
          give_alike e first P n l z _ (known n same))

      delete_call : (a : ℕ) → Same (delete e d a) m k
      unfolding delete
      delete_call a =
          filled_alike e first Any m k b d a _ (λ _ c is.
          check_alike e first Any m k b _ _ _ (λ _.
          bind_alike e first Any Any (drop_slot e a d) _ m k (drop_call Any a (λ n _. tt)) (λ x n l _ z.
          buffer_alike e first Any n l z _
          (give_alike e first Any n l z _ tt))))

  all_alike : (vas : List ℕ) (m k : Mem) → Beside e first m k → OwnTables e m → HaveTables m e.root vas
      → Alike e first Any (unmap_all e.root vas m) (unmap_all e.root vas k)
  unfolding unmap_all
  all_alike [] m k b t h = give_alike e first Any m k b tt tt
  all_alike (va ∷ vas) m k b t h =
      unmap_alike e first m k b Any t va (unmap_all e.root vas) h.0 (λ n l same z.
      all_alike vas n l z (same_tables e m n same t) (still_have m n e.root vas same h.1))

  revoke_call : (d : Dom) (m k : Mem) → Beside e first m k → Ready e d m → (a : ℕ) → Same (revoke e d a) m k
  unfolding revoke ◌>>◌
  revoke_call d m k b r a =
      filled_alike e first Any m k b d a _ (λ _ c is.
      bind_alike e first Any Any (unmap_all e.root (emptied_at d.caps a)) _ m k
      (all_alike (emptied_at d.caps a) m k b r.tables (have_tables e d m r a (range_with_len 0 64))) (λ u n l _ z.
      buffer_alike e first Any n l z _
      (give_alike e first Any n l z _ tt)))

  -- ---- all of them

  either_call : (t : Bool) (x y : Act Dom) (m k : Mem) → Same x m k → Same y m k → Same (cond t x y) m k
  either_call true x y m k h g = h
  either_call false x y m k h g = g

  pub any_call : (d : Dom) (m k : Mem) → Beside e first m k → Ready e d m → (number a b c : ℕ)
      → Same (call_of e d number a b c) m k
  unfolding call_of
  any_call d m k z r number a b c =
      either_call (nat_eq number 0) _ _ m k (give_alike e first Any m k z (exited a d) tt)
      (either_call (nat_eq number 1) _ _ m k (put_alike d m k z a)
      (either_call (nat_eq number 2) _ _ m k (alloc_alike d m k z a b)
      (either_call (nat_eq number 3) _ _ m k (install_call d m k z r a b)
      (either_call (nat_eq number 4) _ _ m k (map_call d m k z r a b c)
      (either_call (nat_eq number 5) _ _ m k (unmap_call d m k z r a)
      (either_call (nat_eq number 6) _ _ m k (copy_alike d m k z a b c)
      (either_call (nat_eq number 7) _ _ m k (delete_call d m k z r a)
      (either_call (nat_eq number 8) _ _ m k (revoke_call d m k z r a)
      (quiet_alike e first d _ m k z (later_quiet d number a b))))))))))

pub calls_are_confined : (e : Estate) (d : Dom) (m k : Mem) → Kept e d m → SameMine e m k
    → IsConfined e m (call e d m) (call e d k)
unfolding call
calls_are_confined e d m k h same =
    let regs = d.threads.current.regs in
    let r =
    any_call e m d m k (record { same = same; outside = λ f _. refl }) (ready e d m h)
    (number_made e d) (register regs 10) (register regs 11) (register regs 12) in
    record { value = r.value; notes = r.notes; same = r.beside.same; outside = r.beside.outside; work = r.work }
