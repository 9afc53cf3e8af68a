-- How REVOKE ends: what it asks of the leaves, and what it leaves.
use Rattle.std.proofs.Common.{◌≡◌, ◌∙◌, ap, sym, subst, inr, ℕ, ◌<◌, List, length, Some}
use Rattle.std.specs.Prelude.{Result, Err}
use Rattle.std.specs.List.{range_with_len}
use Rattle.tp_base.specs.Act as act
use Rattle.phys_mem.specs.Contents.{Contents}
use Rattle.phys_mem.specs.Mem.{Mem}
use Rattle.frame_colours.specs.FreeList.{FreeList}
use Rattle.cap_table.specs.declared.Cap.{Cap}
use Rattle.cap_table.specs.Slots as slots
use Rattle.cap_table.specs.Slots.{Slots, cap_at, revoked, revoked_count, revoked_entries}
use Rattle.cap_table.proofs.RevokeLemmas.{length_revoked}
use Rattle.call_table.specs.Domain.{Dom, done, with_caps}
use Rattle.call_table.specs.Claims.{Estate}
use Rattle.call_table.specs.Calls.{Note, filled, emptied_at, unmap_all, revoke}
use Rattle.call_table.specs.declared.Reply.{Reply}
use Rattle.kernel_call.specs.declared.domain.Domain.{Domain}
use Rattle.kernel_call.specs.declared.error.CallError.{CallError}
use Rattle.kernel_call.specs.Models.{dom_model}
use Rattle.kernel_call.specs.Facts.{Done, HasFacts, Ends, reads, end_of}
use Rattle.kernel_call.specs.Entries.{Leaves, CanUnmapAll}
use Rattle.kernel_call.proofs.Frees.{free_of}
use Rattle.kernel_call.proofs.FreesAlloc.{kept, DoneWith}
use Rattle.kernel_call.proofs.FreesRevoked.{revoked_free}
use Rattle.kernel_call.proofs.Drops.{can_unmap, revoke_runs, buffer_work}
use Rattle.kernel_call.proofs.DropsDelete.{unfilled}

module _ (e : Estate) (d : Domain) (memory : Contents) (readings : List ℕ) (replies : List Reply) (m : Mem)
    (a : ℕ) (h : HasFacts e memory m d) where
  abbrev model : Dom
  model = dom_model d readings replies

  pub revoke_unfilled : (found : Result Cap CallError) (x y : CallError) (result : Result Done CallError)
      → filled model a m ≡ reads m (end_of model found) → found ≡ Err y → result ≡ Err x → x ≡ y
      → Ends 8 e d d memory readings replies result (revoke e model a m)
  unfolding revoke
  revoke_unfilled found x y result finds was is same = unfilled 8 e d memory readings replies m a _ found x y result h finds was is same

  -- the leaves that are cleared are those of all 64 slots
  all_slots : revoked_entries d.caps a ≡ emptied_at d.caps a
  all_slots = ap (λ (n : ℕ). slots.entries_in d.caps a (range_with_len 0 n)) h.has.slots

  -- and are there
  pub can_revoke : (vas : List ℕ) → vas ≡ revoked_entries d.caps a → CanUnmapAll m d.map memory.frames vas
  can_revoke vas is =
      subst (λ (vas : List ℕ). CanUnmapAll m d.map memory.frames vas) (sym (is ∙ all_slots))
      (subst (λ (r : ℕ). CanUnmapAll m r memory.frames (emptied_at d.caps a)) (sym h.has.root)
      (subst (λ (n : ℕ). CanUnmapAll m e.root n (emptied_at d.caps a)) h.frames
      (can_unmap e model m a h.estate (kept e memory m d readings replies h))))

  pub revoke_ends : (c : Cap) (caps : Slots) (pool : FreeList) (root : ℕ) (memory' : Contents) (vas : List ℕ)
      (x : Done)
      → a < 64 → cap_at d.caps a ≡ Some c → caps ≡ revoked d.caps a → vas ≡ revoked_entries d.caps a → pool ≡ d.pool → root ≡ d.map
      → x.value ≡ revoked_count d.caps a → Leaves 8 memory' x.work (unmap_all d.map vas m)
      → DoneWith 8 e model caps pool root memory' x (revoke e model a m)
  unfolding with_caps
  revoke_ends c caps pool root memory' vas x below there is listed pool_is root_is value leaves =
      let all : Leaves 8 memory' x.work (unmap_all e.root (emptied_at d.caps a) m) =
      subst (λ (r : ℕ). Leaves 8 memory' x.work (unmap_all r (emptied_at d.caps a) m)) h.has.root
      (subst (λ (vas : List ℕ). Leaves 8 memory' x.work (unmap_all d.map vas m)) (listed ∙ all_slots) leaves) in
      subst (λ (r : act.Done Mem Note Dom Dom). DoneWith 8 e model caps pool root memory' x r) (sym (revoke_runs e model m a c below there))
      (record {
        value =
            ap (λ (s : Slots). inr (done (revoked_count d.caps a) (record model { caps = s }))) (sym is)
            ∙ ap (λ (v : ℕ). inr (done v (record model { caps = caps }))) (sym value);
        holds = all.holds;
        told = all.told ∙ sym (buffer_work 8 (unmap_all e.root (emptied_at d.caps a) m).notes);
        root = root_is ∙ h.has.root;
        free = pool_is ∙ h.has.pool ∙ revoked_free e d.caps h.has.slots a below ∙ ap (free_of e) (sym is);
        slots = ap length is ∙ length_revoked d.caps a ∙ h.has.slots;
      })
