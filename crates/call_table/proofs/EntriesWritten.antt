-- Which slots each call sets, and which entries of page tables it writes.
use Rattle.std.proofs.Common.{◌≡◌, ◌∙◌, ap, ap₂, sym, subst, refl, inr, ◌⊎◌, ℕ, ◌<◌, Bool, true, false, arith, eqb-true, length, List, [], ◌∷◌, ◌++◌, Option, Some, None, ltb-true}
use Rattle.std.specs.Prelude.{nat_eq, nat_lt, map, if◌then◌else◌}
use Rattle.std.specs.List.{range_with_len}
use Rattle.std.proofs.lemmas.List.{append-nil}
use Rattle.tp_base.specs.Act.{Done, go_on, ◌>>=◌, ◌>>◌, give, stop, check}
use Rattle.phys_mem.specs.Mem.{Mem, word, zeroed_frame}
use Rattle.sv32_walk.specs.PageTableEntry.{ppn, vpn_0, vpn_1}
use Rattle.sv32_walk.specs.Walk.{entry_address}
use Rattle.thread_set.specs.Threads.{with_current}
use Rattle.page_map.specs.declared.refusal.MapRefusal.{MapRefusal}
use Rattle.page_map.specs.Tables.{map_refusal, install_refusal}
use Rattle.page_map.specs.Changes.{table_entry, page_entry, unmapped, mapped}
use Rattle.cap_table.specs.declared.Cap.{Cap}
use Rattle.cap_table.specs.declared.Cap.TheVariants as cap
use Rattle.cap_table.specs.Slots as slots
use Rattle.cap_table.specs.Slots.{cap_at, copied, noted, revoked, revoked_count, revoked_entries}
use Rattle.cap_table.proofs.RevokeLemmas.{at_revoked}
use Rattle.call_table.specs.Domain.{Dom, placed, replied, done, refused, exited, with_caps}
use Rattle.call_table.specs.Claims.{Estate, least_free}
use Rattle.call_table.specs.Calls.{Note, Act, entries_in, zero_out, page_refusal, table_refusal, map_at, unmap_at, install_at, uninstall_at, empty_buffer, some_or, is_slot, filled, allowed, unless_refused, page_in, table_in, copy_refusal, clear_entry, with_slot, put_byte, alloc, install, map_page, unmap, copy, drop_slot, delete, emptied_at, unmap_all, revoke, call_of, call, fresh_cap, number_made}
use Rattle.call_table.specs.Laws.{Kept}
use Rattle.call_table.specs.Meanings.{Makes, argument_a, argument_b, argument_c}
use Rattle.call_table.specs.Entries.{SetsSlot, AllocatedSlotLaw, MappedSlotLaw, CopiedPageLaw, CopiedLineLaw, DeletedSlotLaw, IsRevokedAll, RevokedSlotsLaw, entry_of, entries_written, EntriesLaw}
use Rattle.call_table.proofs.TablesSlots.{filled_within, cap_same, cap_other}
use Rattle.call_table.proofs.QuietCalls.{Quiet, poll_quiet, wait_quiet, signal_quiet, spawn_quiet, yield_quiet, end_quiet}
use Rattle.call_table.proofs.RevokedSlots.{after_all}
use Rattle.call_table.proofs.ConfinedTables.{OwnTables, same_tables, root_stays}
use Rattle.call_table.proofs.ConfinedCalls.{ready, page_in_is, HaveTables, still_have, have_tables}
use Rattle.call_table.proofs.MeaningSteps.{Whatever, Gives, given, bind_gives, give_gives, clear_gives, unmap_all_gives, buffer_gives, zero_gives, map_gives, page_refusal_gives, check_gives, some_gives, filled_gives, allowed_gives, unless_gives}
use Rattle.call_table.proofs.MeaningNumbers.{by_number}
use Rattle.call_table.proofs.WorkSteps.{entries-append}

-- ---- a call that sets one slot

set_is : (d : Dom) (slot : ℕ) (c : Option Cap) → slot < length d.caps
    → SetsSlot slot c d (done 0 (with_slot d slot c))
unfolding replied placed with_caps with_current
set_is d slot c below = record {
  done = record { threads = refl; reply = refl };
  there = cap_same d.caps slot c below;
  others = λ i other. cap_other d.caps slot i c other;
  rest = refl;
}

-- the value of a call, by its number
value_of : (e : Estate) (d x : Dom) (m : Mem) (number : ℕ) → Makes e d number → (call e d m).value ≡ inr x
    → (call_of e d number (argument_a d) (argument_b d) (argument_c d) m).value ≡ inr x
value_of e d x m number is does = ap (λ (r : Done Mem Note Dom Dom). r.value) (sym (by_number e d m number is)) ∙ does

module _ (e : Estate) (d : Dom) (m : Mem) (long : length d.caps ≡ 64) (a b c : ℕ) where
  -- slot s, which is one, is what this makes of it
  abbrev Sets : ℕ → Option Cap → Dom → Mem → Type 0
  Sets s o x n = (x ≡ done 0 (with_slot d s o)) × (s < length d.caps)

  slot_below : (s : ℕ) → nat_lt s 64 ≡ true → s < length d.caps
  slot_below s is = let less = ltb-true s 64 is in omega (arith, less, long)

  abbrev Allocates : Dom → Mem → Type 0
  Allocates x n = (f : ℕ) × (least_free e d.caps ≡ Some f) × (x ≡ done 0 (with_slot d a (Some (fresh_cap b f)))) × (a < length d.caps)

  alloc_sets : Gives Whatever Allocates (alloc e d a b m)
  unfolding alloc is_slot
  alloc_sets =
      check_gives Whatever Allocates m d (λ _. tt) 2 _ _ (λ below.
      check_gives Whatever Allocates m d (λ _. tt) 4 _ _ (λ _.
      check_gives Whatever Allocates m d (λ _. tt) 5 _ _ (λ _.
      some_gives Whatever Allocates m d (λ _. tt) 10 (least_free e d.caps) _ (λ f is.
      zero_gives Whatever Allocates m f _
      (give_gives Whatever Allocates (zeroed_frame m f) _ (f, is, refl, slot_below a below))))))

  abbrev Maps : Dom → Mem → Type 0
  Maps = Sets a (noted (cap_at d.caps a) (Some b))

  map_sets : Gives Whatever Maps (map_page e d a b c m)
  unfolding map_page
  map_sets =
      filled_gives Whatever Maps m d (λ _. tt) a _ (λ below x there.
      some_gives Whatever Maps m d (λ _. tt) 5 (page_in x) _ (λ page _.
      check_gives Whatever Maps m d (λ _. tt) 6 _ _ (λ _.
      check_gives Whatever Maps m d (λ _. tt) 7 _ _ (λ _.
      check_gives Whatever Maps m d (λ _. tt) 8 _ _ (λ _.
      page_refusal_gives Whatever Maps m e.root b _
      (allowed_gives Whatever Maps m d (λ _. tt) (map_refusal m e.root b) _ (λ _.
      map_gives Whatever Maps m e.root b page.frame c _
      (give_gives Whatever Maps (mapped m e.root b page.frame c) _
      (ap (λ (o : Option Cap). done 0 (with_slot d a (noted o (Some b)))) (sym there), slot_below a below)))))))))

  abbrev Copies : Dom → Mem → Type 0
  Copies = Sets b (copied (cap_at d.caps a) c)

  copy_sets : Gives Whatever Copies (copy d a b c m)
  unfolding copy is_slot
  copy_sets =
      check_gives Whatever Copies m d (λ _. tt) 2 _ _ (λ _.
      check_gives Whatever Copies m d (λ _. tt) 2 _ _ (λ below.
      some_gives Whatever Copies m d (λ _. tt) 3 (cap_at d.caps a) _ (λ x there.
      check_gives Whatever Copies m d (λ _. tt) 4 _ _ (λ _.
      unless_gives Whatever Copies m d (λ _. tt) (copy_refusal x c) _ (λ _.
      give_gives Whatever Copies m _
      (ap (λ (o : Option Cap). done 0 (with_slot d b (copied o c))) (sym there), slot_below b below))))))

-- a call that sets a slot, where it is known what that held
sets_by : (d x : Dom) (slot : ℕ) (o z : Option Cap) → x ≡ done 0 (with_slot d slot o) → slot < length d.caps
    → o ≡ z → SetsSlot slot z d x
sets_by d x slot o z is below same =
    subst (SetsSlot slot z d) (sym (is ∙ ap (λ (c : Option Cap). done 0 (with_slot d slot c)) same)) (set_is d slot z below)

pub allocated_slot : AllocatedSlotLaw
unfolding call_of
allocated_slot e d x m h is does =
    let a = argument_a d in
    let b = argument_b d in
    let r = given Whatever (Allocates e d m h.slots a b (argument_c d)) (alloc e d a b m) (alloc_sets e d m h.slots a b (argument_c d)) x
    (value_of e d x m 2 is does) in
    record {
      frame = r.0;
      least = r.1;
      page =
          λ kind. sets_by d x a (Some (fresh_cap b r.0)) (Some (cap.Frame r.0 7 None)) r.2 r.3
          (ap (λ (k : ℕ). Some (fresh_cap k r.0)) kind);
      table =
          λ kind. sets_by d x a (Some (fresh_cap b r.0)) (Some (cap.Table r.0 None)) r.2 r.3
          (ap (λ (k : ℕ). Some (fresh_cap k r.0)) kind);
    }

pub mapped_slot : MappedSlotLaw
unfolding call_of
mapped_slot e d x m frame rights at h is does there =
    let a = argument_a d in
    let b = argument_b d in
    let r =
    given Whatever (Maps e d m h.slots a b (argument_c d)) (map_page e d a b (argument_c d) m)
    (map_sets e d m h.slots a b (argument_c d)) x
    (value_of e d x m 4 is does) in
    sets_by d x a (noted (cap_at d.caps a) (Some b)) (Some (cap.Frame frame rights (Some b))) r.0 r.1
    (ap (λ (o : Option Cap). noted o (Some b)) there)

copied_as : (e : Estate) (d x : Dom) (m : Mem) (c z : Option Cap) → Kept e d m → Makes e d 6
    → (call e d m).value ≡ inr x
    → cap_at d.caps (argument_a d) ≡ c → copied c (argument_c d) ≡ z → SetsSlot (argument_b d) z d x
unfolding call_of
copied_as e d x m c z h is does there same =
    let a = argument_a d in
    let b = argument_b d in
    let r =
    given Whatever (Copies e d m h.slots a b (argument_c d)) (copy d a b (argument_c d) m)
    (copy_sets e d m h.slots a b (argument_c d)) x
    (value_of e d x m 6 is does) in
    sets_by d x b (copied (cap_at d.caps a) (argument_c d)) z r.0 r.1 (ap (λ (o : Option Cap). copied o (argument_c d)) there ∙ same)

pub copied_page : CopiedPageLaw
copied_page e d x m frame rights at h is does there =
    copied_as e d x m (Some (cap.Frame frame rights at)) (Some (cap.Frame frame (argument_c d) None)) h is does there refl

pub copied_line : CopiedLineLaw
copied_line e d x m line h is does there = copied_as e d x m (Some (cap.Irq line)) (Some (cap.Irq line)) h is does there refl

-- ---- DELETE

module _ (e : Estate) (d : Dom) (m : Mem) (a : ℕ) where
  abbrev Emptied : Dom → Mem → Type 0
  Emptied x n = x ≡ with_slot d a None

  abbrev Ended : Dom → Mem → Type 0
  Ended x n = (x ≡ done 0 (with_slot d a None)) × (a < length d.caps)

  delete_empties : Gives Whatever Ended (delete e d a m)
  unfolding delete drop_slot
  delete_empties =
      filled_gives Whatever Ended m d (λ _. tt) a _ (λ _ c there.
      check_gives Whatever Ended m d (λ _. tt) 12 _ _ (λ _.
      bind_gives Whatever Emptied Ended _ _ m
      (clear_gives Whatever Emptied m e.root (cap_at d.caps a) _ (give_gives Whatever Emptied _ _ refl)) (λ x n same.
      buffer_gives Whatever Ended n _
      (give_gives Whatever Ended n _ (ap (λ (y : Dom). done 0 y) same, filled_within d.caps a c there)))))

pub deleted_slot : DeletedSlotLaw
unfolding call_of
deleted_slot e d x m is does =
    let end = given Whatever (Ended e d m (argument_a d)) (delete e d (argument_a d) m) (delete_empties e d m (argument_a d)) x
    (value_of e d x m 7 is does) in
    sets_by d x (argument_a d) None None end.0 end.1 refl

-- ---- REVOKE

-- where the root is as it was at first, so are the entries
all_entries : (e : Estate) (first : Mem) (vas : List ℕ) (m : Mem) → OwnTables e m → HaveTables m e.root vas
    → ((r : ℕ) → word m e.root r ≡ word first e.root r) → entries_in (unmap_all e.root vas m).notes ≡ map (page_entry first e.root) vas
unfolding unmap_all unmap_at give entries_in ◌>>◌ ◌>>=◌ go_on
all_entries e first [] m t h same = refl
all_entries e first (va ∷ vas) m t h same =
    let stays = root_stays e m va t h.0 in
    ap₂ (λ (entry : ℕ) (entries : List ℕ). entry ∷ entries) (ap (λ (w : ℕ). entry_address (ppn w) (vpn_0 va)) (same (vpn_1 va)))
    (all_entries e first vas (unmapped m e.root va) (same_tables e m (unmapped m e.root va) stays t)
    (still_have m (unmapped m e.root va) e.root vas stays h.1) (λ r. stays r ∙ same r))

-- ---- what is so of the entries and the domain of a call that is done, test by test

module _ (P : List ℕ → Dom → Type 0) (m : Mem) where
  record Ends (r : Done Mem Note Dom Dom) : Type 0 where
    when : (x : Dom) → r.value ≡ inr x → P (entries_in r.notes) x

  given_end : (es : List ℕ) (x y : Dom) → P es x → ◌≡◌ {A = Dom ⊎ Dom} (inr x) (inr y) → P es y
  given_end es x y h is = let same : x ≡ y = cc is in subst (P es) same h

  give_notes : (x : Dom) → P [] x → Ends (give x m)
  unfolding give entries_in
  give_notes x h = record { when = λ y is. given_end [] x y h is }

  stop_notes : (d : Dom) → Ends (stop d m)
  unfolding stop
  stop_notes d = record { when = λ x is. absurd (cc is) }

  quiet_notes : (d : Dom) (y : Act Dom) → Quiet d y → ((x : Dom) → P [] x) → Ends (y m)
  unfolding entries_in
  quiet_notes d y q h = record { when = λ x is. subst (λ (ns : List Note). P (entries_in ns) x) (sym (q.no_work m)) (h x) }

  check_notes : (d : Dom) (t : Bool) (y : Act Dom) → Ends (y m) → Ends ((check d t >> y) m)
  unfolding check ◌>>◌ ◌>>=◌ go_on give stop
  check_notes d true y h = record { when = λ x is. h.when x is }
  check_notes d false y h = record { when = λ x is. absurd (cc is) }

  some_notes : {A : Type 0} (d : Dom) (o : Option A) (f : A → Act Dom) → ((a : A) → o ≡ Some a → Ends (f a m))
      → Ends ((some_or d o >>= f) m)
  unfolding some_or ◌>>=◌ go_on give stop
  some_notes d (Some a) f h = record { when = λ x is. (h a refl).when x is }
  some_notes d None f h = record { when = λ x is. absurd (cc is) }

  filled_by : (d : Dom) (t : Bool) (o : Option Cap) (f : Cap → Act Dom)
      → ((c : Cap) → o ≡ Some c → Ends (f c m))
      → Ends (((check (refused 2 d) t >> some_or (refused 3 d) o) >>= f) m)
  unfolding check some_or ◌>>◌ ◌>>=◌ go_on give stop
  filled_by d false o f h = record { when = λ x is. absurd (cc is) }
  filled_by d true None f h = record { when = λ x is. absurd (cc is) }
  filled_by d true (Some c) f h = record { when = λ x is. (h c refl).when x is }

  filled_notes : (d : Dom) (a : ℕ) (f : Cap → Act Dom) → ((c : Cap) → cap_at d.caps a ≡ Some c → Ends (f c m))
      → Ends ((filled d a >>= f) m)
  unfolding filled is_slot
  filled_notes d a f h = filled_by d (nat_lt a 64) (cap_at d.caps a) f h

  allowed_notes : (d : Dom) (r : Option MapRefusal) (y : Act Dom) → Ends (y m) → Ends ((allowed d r >> y) m)
  unfolding allowed ◌>>◌ ◌>>=◌ go_on give stop
  allowed_notes d None y h = record { when = λ x is. h.when x is }
  allowed_notes d (Some r) y h = record { when = λ x is. absurd (cc is) }

  unless_notes : (d : Dom) (r : Option ℕ) (y : Act Dom) → Ends (y m) → Ends ((unless_refused d r >> y) m)
  unfolding unless_refused ◌>>◌ ◌>>=◌ go_on give stop
  unless_notes d None y h = record { when = λ x is. h.when x is }
  unless_notes d (Some code) y h = record { when = λ x is. absurd (cc is) }

  page_refusal_notes : (root va : ℕ) (f : Option MapRefusal → Act Dom) → Ends (f (map_refusal m root va) m)
      → Ends ((page_refusal root va >>= f) m)
  unfolding page_refusal ◌>>=◌ go_on
  page_refusal_notes root va f h = record { when = λ x is. h.when x is }

  table_refusal_notes : (root va : ℕ) (f : Option MapRefusal → Act Dom)
      → Ends (f (install_refusal m root va) m) → Ends ((table_refusal root va >>= f) m)
  unfolding table_refusal ◌>>=◌ go_on
  table_refusal_notes root va f h = record { when = λ x is. h.when x is }

  -- ---- what a call does last

  zero_notes : (f : ℕ) (x : Dom) → P [] x → Ends ((zero_out f >> give x) m)
  unfolding zero_out give ◌>>◌ ◌>>=◌ go_on entries_in
  zero_notes f x h = record { when = λ y is. given_end [] x y h is }

  map_notes : (root va f rights : ℕ) (x : Dom) → P (page_entry m root va ∷ []) x
      → Ends ((map_at root va f rights >> give x) m)
  unfolding map_at give ◌>>◌ ◌>>=◌ go_on entries_in
  map_notes root va f rights x h = record { when = λ y is. given_end (page_entry m root va ∷ []) x y h is }

  install_notes : (root va f : ℕ) (x : Dom) → P (table_entry root va ∷ []) x
      → Ends ((install_at root va f >> give x) m)
  unfolding install_at give ◌>>◌ ◌>>=◌ go_on entries_in
  install_notes root va f x h = record { when = λ y is. given_end (table_entry root va ∷ []) x y h is }

  unmap_notes : (root va : ℕ) (x : Dom) → P (page_entry m root va ∷ []) x
      → Ends ((unmap_at root va >> (empty_buffer >> give x)) m)
  unfolding unmap_at empty_buffer give ◌>>◌ ◌>>=◌ go_on entries_in
  unmap_notes root va x h = record { when = λ y is. given_end (page_entry m root va ∷ []) x y h is }

  unmap_all_notes : (root : ℕ) (vas : List ℕ) (x : Dom) → P (entries_in (unmap_all root vas m).notes) x
      → Ends ((unmap_all root vas >> (empty_buffer >> give x)) m)
  unfolding empty_buffer give entries_in ◌>>◌ ◌>>=◌ go_on
  unmap_all_notes root vas x h =
      let ns : List Note = (unmap_all root vas m).notes in
      let all : P (entries_in (ns ++ Note.Emptied ∷ [])) x =
      subst (λ (es : List ℕ). P es x) (sym (entries-append ns (Note.Emptied ∷ []) ∙ append-nil (entries_in ns))) h in
      subst Ends (sym (after_all root vas (empty_buffer >> give x) m))
      (record { when = λ y is. given_end (entries_in (ns ++ Note.Emptied ∷ [])) x y all is })

  clear_notes : (root : ℕ) (z : Dom) (c : Option Cap) → P (entry_of m root c) (done 0 z)
      → Ends (((clear_entry root c >> give z) >>= (λ x. empty_buffer >> give (done 0 x))) m)
  unfolding clear_entry unmap_at uninstall_at empty_buffer give ◌>>◌ ◌>>=◌ go_on entries_in
  clear_notes root z None h = record { when = λ y is. given_end [] (done 0 z) y h is }
  clear_notes root z (Some (cap.Irq line)) h = record { when = λ y is. given_end [] (done 0 z) y h is }
  clear_notes root z (Some (cap.Frame f r None)) h = record { when = λ y is. given_end [] (done 0 z) y h is }
  clear_notes root z (Some (cap.Table f None)) h = record { when = λ y is. given_end [] (done 0 z) y h is }
  clear_notes root z (Some (cap.Frame f r (Some va))) h = record { when = λ y is. given_end (page_entry m root va ∷ []) (done 0 z) y h is }
  clear_notes root z (Some (cap.Table f (Some va))) h = record { when = λ y is. given_end (table_entry root va ∷ []) (done 0 z) y h is }

-- what it gives
module _ (e : Estate) (d : Dom) (m : Mem) (a : ℕ) where
  abbrev Revoked : Dom → Mem → Type 0
  Revoked x n = x ≡ done (revoked_count d.caps a) (with_caps (revoked d.caps a) d)

  revoke_empties : Gives Whatever Revoked (revoke e d a m)
  unfolding revoke
  revoke_empties =
      filled_gives Whatever Revoked m d (λ _. tt) a _ (λ _ c _.
      unmap_all_gives Whatever Revoked m e.root _ _
      (buffer_gives Whatever Revoked _ _
      (give_gives Whatever Revoked _ _ refl)))

revoked_is : (d : Dom)
    → IsRevokedAll d
    (done (revoked_count d.caps (argument_a d)) (with_caps (revoked d.caps (argument_a d)) d))
unfolding replied placed with_current with_caps
revoked_is d = record { done = record { threads = refl; reply = refl }; slots = λ i. at_revoked d.caps (argument_a d) i; rest = refl }

pub revoked_slots : RevokedSlotsLaw
unfolding call_of
revoked_slots e d x m h is does =
    let end = given Whatever (Revoked e d m (argument_a d)) (revoke e d (argument_a d) m) (revoke_empties e d m (argument_a d)) x
    (value_of e d x m 8 is does) in
    subst (IsRevokedAll d) (sym end) (revoked_is d)

-- ---- the entries of each call

module _ (e : Estate) (d : Dom) (m : Mem) (h : Kept e d m) (a b c : ℕ) where
  -- the entries of the call of a number
  abbrev Wrote : ℕ → List ℕ → Dom → Type 0
  Wrote number es x = es ≡ entries_written e d m number a b

  abbrev Right : ℕ → Done Mem Note Dom Dom → Type 0
  Right number r = Ends (Wrote number) m r

  put_right : Right 1 (put_byte d a m)
  unfolding put_byte entries_written
  put_right = check_notes _ _ _ _ _ (give_notes _ _ _ refl)

  alloc_right : Right 2 (alloc e d a b m)
  unfolding alloc is_slot entries_written
  alloc_right =
      check_notes _ _ _ _ _ (check_notes _ _ _ _ _ (check_notes _ _ _ _ _
      (some_notes (Wrote 2) m _ (least_free e d.caps) _ (λ f _. zero_notes (Wrote 2) m f _ refl))))

  install_right : Right 3 (install e d a b m)
  unfolding install entries_written
  install_right =
      filled_notes (Wrote 3) m d a _ (λ x _.
      some_notes (Wrote 3) m _ (table_in x) _ (λ t _.
      check_notes (Wrote 3) m _ _ _
      (check_notes (Wrote 3) m _ _ _
      (table_refusal_notes (Wrote 3) m e.root b _
      (allowed_notes (Wrote 3) m d (install_refusal m e.root b) _
      (install_notes (Wrote 3) m e.root b t.frame _ refl))))))

  map_right : Right 4 (map_page e d a b c m)
  unfolding map_page entries_written
  map_right =
      filled_notes (Wrote 4) m d a _ (λ x _.
      some_notes (Wrote 4) m _ (page_in x) _ (λ page _.
      check_notes (Wrote 4) m _ _ _
      (check_notes (Wrote 4) m _ _ _
      (check_notes (Wrote 4) m _ _ _
      (page_refusal_notes (Wrote 4) m e.root b _
      (allowed_notes (Wrote 4) m d (map_refusal m e.root b) _
      (map_notes (Wrote 4) m e.root b page.frame c _ refl)))))))

  unmap_right : Right 5 (unmap e d a m)
  unfolding unmap entries_written
  unmap_right =
      filled_notes (Wrote 5) m d a _ (λ x there.
      some_notes (Wrote 5) m _ (page_in x) _ (λ page is.
      some_notes (Wrote 5) m _ page.mapped _ (λ va at.
      unmap_notes (Wrote 5) m e.root va _
      (sym (ap (entry_of m e.root) (there ∙ ap Some (page_in_is x page is)
      ∙ ap (λ (w : Option ℕ). Some (cap.Frame page.frame page.rights w)) at))))))

  copy_right : Right 6 (copy d a b c m)
  unfolding copy is_slot entries_written
  copy_right =
      check_notes (Wrote 6) m _ _ _
      (check_notes (Wrote 6) m _ _ _
      (some_notes (Wrote 6) m _ (cap_at d.caps a) _ (λ x _.
      check_notes (Wrote 6) m _ _ _
      (unless_notes (Wrote 6) m d (copy_refusal x c) _
      (give_notes (Wrote 6) m _ refl)))))

  delete_right : Right 7 (delete e d a m)
  unfolding delete drop_slot entries_written
  delete_right =
      filled_notes (Wrote 7) m d a _ (λ x _.
      check_notes (Wrote 7) m _ _ _
      (clear_notes (Wrote 7) m e.root (with_slot d a None) (cap_at d.caps a) refl))

  revoke_right : Right 8 (revoke e d a m)
  unfolding revoke entries_written
  revoke_right =
      let r = ready e d m h in
      filled_notes (Wrote 8) m d a _ (λ x _.
      unmap_all_notes (Wrote 8) m e.root (emptied_at d.caps a) _
      (all_entries e m (emptied_at d.caps a) m r.tables (have_tables e d m r a (range_with_len 0 64)) (λ q. refl)
      ∙ ap (λ (n : ℕ). map (page_entry m e.root) (slots.entries_in d.caps a (range_with_len 0 n))) (sym h.slots)))

  numbered : (number k : ℕ) (x y : Act Dom) → Right k (x m) → Right number (y m)
      → Right number ((if nat_eq number k then x else y) m)
  numbered number k x y g f = by_test (nat_eq number k) refl
    where
      by_test : (t : Bool) → nat_eq number k ≡ t → Right number ((if t then x else y) m)
      by_test true is = subst (λ (n : ℕ). Right n (x m)) (sym (eqb-true number k is)) g
      by_test false is = f

  call_right : (number : ℕ) → Right number (call_of e d number a b c m)
  unfolding call_of entries_written
  call_right number =
      numbered number 0 _ _ (give_notes (Wrote 0) m (exited a d) refl)
      (numbered number 1 _ _ put_right
      (numbered number 2 _ _ alloc_right
      (numbered number 3 _ _ install_right
      (numbered number 4 _ _ map_right
      (numbered number 5 _ _ unmap_right
      (numbered number 6 _ _ copy_right
      (numbered number 7 _ _ delete_right
      (numbered number 8 _ _ revoke_right
      (numbered number 9 _ _ (quiet_notes (Wrote 9) m d _ (poll_quiet d a) (λ x. refl))
      (numbered number 10 _ _ (quiet_notes (Wrote 10) m d _ (wait_quiet d a) (λ x. refl))
      (numbered number 11 _ _ (quiet_notes (Wrote 11) m d _ (signal_quiet d a) (λ x. refl))
      (numbered number 12 _ _ (quiet_notes (Wrote 12) m d _ (spawn_quiet d a b) (λ x. refl))
      (numbered number 13 _ _ (quiet_notes (Wrote 13) m d _ (yield_quiet d) (λ x. refl))
      (numbered number 14 _ _ (quiet_notes (Wrote 14) m d _ (end_quiet d) (λ x. refl))
      (stop_notes (Wrote number) m (refused 1 d))))))))))))))))

pub entries_are : EntriesLaw
unfolding call
entries_are e d x m h does =
    (call_right e d m h (argument_a d) (argument_b d) (argument_c d) (number_made e d)).when x does
