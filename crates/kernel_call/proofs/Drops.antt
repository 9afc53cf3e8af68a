-- Slots that are dropped, one or several: which entries are cleared, and what the action of a call comes to.
use Rattle.std.proofs.Common.{◌≡◌, ◌∙◌, ap, ap₂, sym, subst, refl, inr, ℕ, ◌<◌, Bool, true, false, not, ◌&&◌, List, [], ◌∷◌, ◌++◌, Option, Some, None}
use Rattle.tp_base.specs.Act as act
use Rattle.tp_base.specs.Act.{go_on, ◌>>=◌, ◌>>◌, give, check}
use Rattle.phys_mem.specs.Contents.{Contents}
use Rattle.phys_mem.specs.Mem.{Mem, word}
use Rattle.phys_mem.specs.Holds.{Holds}
use Rattle.kernel_clone.specs.Models.{work_model}
use Rattle.kernel_clone.specs.declared.Work.{Work}
use Rattle.sv32_walk.specs.PageTableEntry.{valid, vpn_0, vpn_1}
use Rattle.sv32_walk.proofs.WordLemmas.{valid-leaf}
use Rattle.page_map.specs.Tables.{has_table, has_page}
use Rattle.page_map.specs.Tables as tables
use Rattle.page_map.specs.Changes.{table_entry, page_entry, unmapped, uninstalled, CanUnmap}
use Rattle.cap_table.specs.declared.Cap.{Cap}
use Rattle.cap_table.specs.declared.Cap.TheVariants as cap
use Rattle.cap_table.specs.Slots.{cap_at, mapped_at, installed_at, in_use, revoked, revoked_count}
use Rattle.call_table.specs.Domain.{Dom, refused, done, with_caps}
use Rattle.call_table.specs.Claims.{Estate, entry_places, region_of, claim_of, IsEstate}
use Rattle.call_table.specs.Calls.{Note, Act, with_slot, clear_entry, unmap_at, uninstall_at, empty_buffer, filled, drop_slot, delete, emptied_at, unmap_all, revoke}
use Rattle.call_table.specs.Calls as calls
use Rattle.call_table.specs.Laws.{Kept}
use Rattle.call_table.proofs.ClaimLaws.{table_valid}
use Rattle.call_table.proofs.CallLaws.{table_at}
use Rattle.call_table.proofs.RevokedSlots.{Each, after_all}
use Rattle.call_table.proofs.CallLawsDelete.{revoked_keeps}
use Rattle.call_table.proofs.TablesMeaning.{page_tables}
use Rattle.call_table.proofs.TablesSlots.{claim_at}
use Rattle.kernel_call.specs.Entries.{clear_at, CanClear, Leaves, CanUnmapAll}
use Rattle.kernel_call.proofs.Paths.{check_then, filled_then}

-- ---- chains

pub binds : {A B : Type 0} (x : Act A) (f : A → Act B) (m n : Mem) (ns : List Note) (a : A)
    → x m ≡ record { notes = ns; state = n; value = inr a }
    → (x >>= f) m ≡ record { notes = ns ++ (f a n).notes; state = (f a n).state; value = (f a n).value }
unfolding ◌>>=◌ go_on
binds {A} x f m n ns a e = ap (λ (r : act.Done Mem Note Dom A). go_on r f r.value) e

-- the buffer is emptied, and the call gives its domain
pub empties : (x : Dom) (m : Mem)
    → (empty_buffer >> give x) m ≡ record { notes = Note.Emptied ∷ []; state = m; value = inr x }
unfolding empty_buffer give ◌>>◌ ◌>>=◌ go_on
empties x m = refl

-- ---- one entry

pub clear_is : (root : ℕ) (c : Option Cap) (m : Mem)
    → clear_entry root c m ≡ clear_at root (mapped_at c) (installed_at c) m
unfolding clear_entry
clear_is root None m = refl
clear_is root (Some (cap.Frame f r None)) m = refl
clear_is root (Some (cap.Frame f r (Some va))) m = refl
clear_is root (Some (cap.Table f None)) m = refl
clear_is root (Some (cap.Table f (Some va))) m = refl
clear_is root (Some (cap.Irq line)) m = refl

cleared_give : (root : ℕ) (u v : Option ℕ) (x : Dom) (m : Mem) → (clear_at root u v >> give x) m
    ≡ record { notes = (clear_at root u v m).notes; state = (clear_at root u v m).state; value = inr x }
unfolding unmap_at uninstall_at give ◌>>◌ ◌>>=◌ go_on
cleared_give root None None x m = refl
cleared_give root None (Some va) x m = refl
cleared_give root (Some va) None x m = refl
cleared_give root (Some va) (Some vb) x m = refl

pub drop_runs : (e : Estate) (i : ℕ) (d : Dom) (m : Mem) (c : Option Cap) → cap_at d.caps i ≡ c
    → drop_slot e i d m ≡ record {
      notes = (clear_at e.root (mapped_at c) (installed_at c) m).notes;
      state = (clear_at e.root (mapped_at c) (installed_at c) m).state;
      value = inr (with_slot d i None);
    }
unfolding drop_slot ◌>>◌ ◌>>=◌ go_on
drop_runs e i d m c is =
    ap (λ (c : Option Cap). (clear_entry e.root c >> give (with_slot d i None)) m) is
    ∙ ap (λ (r : act.Done Mem Note Dom (Unit {0})). go_on r (λ _. give (with_slot d i None)) r.value) (clear_is e.root c m)
    ∙ cleared_give e.root (mapped_at c) (installed_at c) (with_slot d i None) m

-- what is told of each

module _ (root : ℕ) (u v : Option ℕ) (m : Mem) (memory : Contents) (work : Work) where
  pub leaf_leaves : (va at : ℕ) → u ≡ Some va → Holds memory (unmapped m root va) → at ≡ page_entry m root va
      → work_model work ≡ record { op = 7; zeroed = None; entries = at ∷ [] } → Leaves 7 memory work (clear_at root u v m)
  unfolding unmap_at calls.work_of calls.zeroed_in calls.entries_in
  leaf_leaves va at is holds place told = subst (λ (u : Option ℕ). Leaves 7 memory work (clear_at root u v m)) (sym is) (record {
    holds = holds;
    told = told ∙ ap (λ (at : ℕ). calls.work_of 7 (Note.Entry at ∷ [])) place;
  })

  pub entry_leaves : (va at : ℕ) → u ≡ None → v ≡ Some va → Holds memory (uninstalled m root va)
      → at ≡ table_entry root va
      → work_model work ≡ record { op = 7; zeroed = None; entries = at ∷ [] } → Leaves 7 memory work (clear_at root u v m)
  unfolding uninstall_at calls.work_of calls.zeroed_in calls.entries_in
  entry_leaves va at first is holds place told =
      subst (λ (u : Option ℕ). Leaves 7 memory work (clear_at root u v m)) (sym first)
      (subst (λ (v : Option ℕ). Leaves 7 memory work (clear_at root None v m)) (sym is) (record {
        holds = holds;
        told = told ∙ ap (λ (at : ℕ). calls.work_of 7 (Note.Entry at ∷ [])) place;
      }))

  pub nothing_leaves : u ≡ None → v ≡ None → Holds memory m
      → work_model work ≡ record { op = 7; zeroed = None; entries = [] } → Leaves 7 memory work (clear_at root u v m)
  unfolding give calls.work_of calls.zeroed_in calls.entries_in
  nothing_leaves first none holds told =
      subst (λ (u : Option ℕ). Leaves 7 memory work (clear_at root u v m)) (sym first)
      (subst (λ (v : Option ℕ). Leaves 7 memory work (clear_at root None v m)) (sym none) (record { holds = holds; told = told }))

-- what a slot accounts for is there

module _ (e : Estate) (d : Dom) (m : Mem) (h : Kept e d m) (i : ℕ) where
  pub has_leaf : (f rights va : ℕ) → cap_at d.caps i ≡ Some (cap.Frame f rights (Some va))
      → has_page m e.root va ≡ true
  unfolding claim_of entry_places
  has_leaf f rights va is =
      let l = h.facts.mapped i true f (vpn_1 va) (vpn_0 va) (claim_at e d.caps i (cap.Frame f rights (Some va)) is) in
      let root : valid (word m e.root (vpn_1 va)) ≡ true =
      ap valid (h.facts.installed l.slot l.frame (vpn_1 va) l.claim) ∙ table_valid l.frame in
      let leaf : valid (word m (tables.table_of m e.root va) (vpn_0 va)) ≡ true =
      ap (λ (g : ℕ). valid (word m g (vpn_0 va))) (table_at e d m va l.slot l.frame h l.claim)
      ∙ ap valid l.entry_is ∙ valid-leaf f l.rights l.good in
      ap (λ (b : Bool). b && valid (word m (tables.table_of m e.root va) (vpn_0 va))) root ∙ leaf

  pub has_entry : (f va : ℕ) → cap_at d.caps i ≡ Some (cap.Table f (Some va)) → has_table m e.root va ≡ true
  unfolding claim_of region_of
  has_entry f va is =
      ap valid (h.facts.installed i f (vpn_1 va) (claim_at e d.caps i (cap.Table f (Some va)) is)) ∙ table_valid f

  pub can_clear : (c : Option Cap) → cap_at d.caps i ≡ c
      → CanClear m e.root e.share.frames (mapped_at c) (installed_at c)
  can_clear None is = tt
  can_clear (Some (cap.Frame f r None)) is = tt
  can_clear (Some (cap.Frame f r (Some va))) is = record { tables = (page_tables e d m h).map; page = has_leaf f r va is }
  can_clear (Some (cap.Table f None)) is = tt
  can_clear (Some (cap.Table f (Some va))) is = record { tables = (page_tables e d m h).map; table = has_entry f va is }
  can_clear (Some (cap.Irq line)) is = tt

-- ---- DELETE

pub delete_runs : (e : Estate) (d : Dom) (a : ℕ) (c : Cap) (m : Mem) → a < 64 → cap_at d.caps a ≡ Some c
    → in_use d.caps a ≡ false
    → delete e d a m ≡ record {
      notes = (clear_at e.root (mapped_at (cap_at d.caps a)) (installed_at (cap_at d.caps a)) m).notes ++ Note.Emptied ∷ [];
      state = (clear_at e.root (mapped_at (cap_at d.caps a)) (installed_at (cap_at d.caps a)) m).state;
      value = inr (done 0 (with_slot d a None));
    }
unfolding delete
delete_runs e d a c m below there unused =
    let r = clear_at e.root (mapped_at (cap_at d.caps a)) (installed_at (cap_at d.caps a)) m in
    filled_then d a
    (λ _. check (refused 12 d) (not (in_use d.caps a))
    >> (drop_slot e a d >>= (λ x. empty_buffer >> give (done 0 x)))) c m below there
    ∙ check_then (refused 12 d) (not (in_use d.caps a)) (drop_slot e a d >>= (λ x. empty_buffer >> give (done 0 x))) m (ap not unused)
    ∙ binds (drop_slot e a d) (λ x. empty_buffer >> give (done 0 x)) m r.state r.notes (with_slot d a None)
    (drop_runs e a d m (cap_at d.caps a) refl)
    ∙ ap (λ (q : act.Done Mem Note Dom Dom).
    record { notes = r.notes ++ q.notes; state = q.state; value = q.value })
    (empties (done 0 (with_slot d a None)) r.state)

-- the buffer is no entry and no frame
pub buffer_work : (number : ℕ) (ns : List Note)
    → calls.work_of number (ns ++ Note.Emptied ∷ []) ≡ calls.work_of number ns
unfolding calls.work_of calls.zeroed_in calls.entries_in
buffer_work number ns =
    ap₂ (λ (z : Option ℕ) (es : List ℕ). record { op = calls.op_of number; zeroed = z; entries = es })
    (same_zeroed ns) (same_entries ns)
  where
    same_zeroed : (ns : List Note) → calls.zeroed_in (ns ++ Note.Emptied ∷ []) ≡ calls.zeroed_in ns
    same_zeroed [] = refl
    same_zeroed (Note.Zeroed f ∷ ns) = refl
    same_zeroed (Note.Entry at ∷ ns) = same_zeroed ns
    same_zeroed (Note.Emptied ∷ ns) = same_zeroed ns

    same_entries : (ns : List Note) → calls.entries_in (ns ++ Note.Emptied ∷ []) ≡ calls.entries_in ns
    same_entries [] = refl
    same_entries (Note.Zeroed f ∷ ns) = same_entries ns
    same_entries (Note.Entry at ∷ ns) = ap (λ (es : List ℕ). at ∷ es) (same_entries ns)
    same_entries (Note.Emptied ∷ ns) = same_entries ns

-- ---- REVOKE

pub revoke_runs : (e : Estate) (d : Dom) (m : Mem) (a : ℕ) (c : Cap) → a < 64 → cap_at d.caps a ≡ Some c
    → revoke e d a m ≡ record {
      notes = (unmap_all e.root (emptied_at d.caps a) m).notes ++ Note.Emptied ∷ [];
      state = (unmap_all e.root (emptied_at d.caps a) m).state;
      value = inr (done (revoked_count d.caps a) (with_caps (revoked d.caps a) d));
    }
unfolding revoke
revoke_runs e d m a c below there =
    let x : Dom = done (revoked_count d.caps a) (with_caps (revoked d.caps a) d) in
    let r = unmap_all e.root (emptied_at d.caps a) m in
    filled_then d a (λ _. unmap_all e.root (emptied_at d.caps a) >> (empty_buffer >> give x)) c m below there
    ∙ after_all e.root (emptied_at d.caps a) (empty_buffer >> give x) m
    ∙ ap (λ (q : act.Done Mem Note Dom Dom). record { notes = r.notes ++ q.notes; state = q.state; value = q.value }) (empties x r.state)

-- each leaf is there when it is cleared
pub can_unmap : (e : Estate) (d : Dom) (m : Mem) (a : ℕ) → IsEstate e → Kept e d m
    → CanUnmapAll m e.root e.share.frames (emptied_at d.caps a)
unfolding with_caps
can_unmap e d m a s h = all_of m (emptied_at d.caps a)
    (revoked_keeps e d m a (λ n va. CanUnmap n e.root e.share.frames va) s h (λ i f rights va caps n is k. record {
      tables = (page_tables e (with_caps caps d) n k).map;
      page = has_leaf e (with_caps caps d) n k i f rights va is;
    })).each
  where
    all_of : (m : Mem) (vas : List ℕ) → Each (λ n va. CanUnmap n e.root e.share.frames va) m e.root vas
        → CanUnmapAll m e.root e.share.frames vas
    all_of m [] each = tt
    all_of m (va ∷ vas) each = (each.0, all_of (unmapped m e.root va) vas each.1)
