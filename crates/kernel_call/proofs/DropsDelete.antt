-- How DELETE ends: what it asks of the entry and the frames, and what it leaves.
use Rattle.std.proofs.Common.{◌≡◌, ◌∙◌, ap, sym, subst, refl, inl, inr, ℕ, ◌<◌, true, false, not, List, length, Option, Some, None}
use Rattle.std.specs.Prelude.{Result, Err, IfSome}
use Rattle.tp_base.specs.Act as act
use Rattle.tp_base.specs.Act.{◌>>=◌, ◌>>◌, give, check}
use Rattle.phys_mem.specs.Contents.{Contents}
use Rattle.phys_mem.specs.Mem.{Mem}
use Rattle.frame_colours.specs.Colours.{IsOwn}
use Rattle.frame_colours.specs.FreeList.{FreeList, is_free}
use Rattle.cap_table.specs.declared.Cap.{Cap}
use Rattle.cap_table.specs.Slots.{Slots, cap_at, with_cap, mapped_at, installed_at, in_use, table_of}
use Rattle.cap_table.specs.Owning.{Back}
use Rattle.call_table.specs.Domain.{Dom, refused, done, with_caps}
use Rattle.call_table.specs.Claims.{Estate}
use Rattle.call_table.specs.Calls.{Note, Act, filled, drop_slot, empty_buffer, delete, work_of}
use Rattle.call_table.specs.declared.Reply.{Reply}
use Rattle.call_table.proofs.ClaimLawsSlots.{long_set}
use Rattle.kernel_call.specs.declared.domain.Domain.{Domain}
use Rattle.kernel_call.specs.declared.error.CallError.{CallError}
use Rattle.kernel_call.specs.Models.{dom_model}
use Rattle.kernel_call.specs.Facts.{Done, HasFacts, Ends, code_of, reads, end_of}
use Rattle.kernel_call.specs.Entries.{clear_at, CanClear, Leaves, given_back}
use Rattle.kernel_call.proofs.Paths.{ends_there, filled_then, check_ends}
use Rattle.kernel_call.proofs.Frees.{free_of, page_frame, table_frame, own_frame, out_frame, page_back, table_back, none_back}
use Rattle.kernel_call.proofs.FreesAlloc.{kept, refusal, DoneWith}
use Rattle.kernel_call.proofs.Drops.{can_clear, delete_runs, buffer_work}

-- a slot that is none, or is empty: the call ends at once
pub unfilled : (number : ℕ) (e : Estate) (d : Domain) (memory : Contents) (readings : List ℕ)
    (replies : List Reply) (m : Mem) (a : ℕ)
    (f : Cap → Act Dom) (found : Result Cap CallError) (x y : CallError) (result : Result Done CallError) → HasFacts e memory m d
    → filled (dom_model d readings replies) a m ≡ reads m (end_of (dom_model d readings replies) found)
    → found ≡ Err y → result ≡ Err x → x ≡ y
    → Ends number e d d memory readings replies result ((filled (dom_model d readings replies) a >>= f) m)
unfilled number e d memory readings replies m a f found x y result h finds was is same =
    subst (λ (t : Result Done CallError).
    Ends number e d d memory readings replies t ((filled (dom_model d readings replies) a >>= f) m))
    (sym is)
    (refusal number e d memory readings replies x m ((filled (dom_model d readings replies) a >>= f) m) h
    (ends_there (filled (dom_model d readings replies) a) f m (refused (code_of x) (dom_model d readings replies))
    (finds ∙ ap (λ (t : Result Cap CallError). reads m (end_of (dom_model d readings replies) t)) (was ∙ ap Err (sym same)))))

module _ (e : Estate) (d : Domain) (memory : Contents) (readings : List ℕ) (replies : List Reply) (m : Mem)
    (a : ℕ) (h : HasFacts e memory m d) where
  abbrev model : Dom
  model = dom_model d readings replies

  pub delete_unfilled : (found : Result Cap CallError) (x y : CallError) (result : Result Done CallError)
      → filled model a m ≡ reads m (end_of model found) → found ≡ Err y → result ≡ Err x → x ≡ y
      → Ends 7 e d d memory readings replies result (delete e model a m)
  unfolding delete
  delete_unfilled found x y result finds was is same = unfilled 7 e d memory readings replies m a _ found x y result h finds was is same

  pub delete_used : (c : Cap) (x : CallError) → code_of x ≡ 12 → a < 64 → cap_at d.caps a ≡ Some c
      → in_use d.caps a ≡ true
      → Ends 7 e d d memory readings replies (Err x) (delete e model a m)
  unfolding delete
  delete_used c x is below there used =
      refusal 7 e d memory readings replies x m (delete e model a m) h
      (filled_then model a
      (λ _. check (refused 12 model) (not (in_use d.caps a))
      >> (drop_slot e a model >>= (λ x. empty_buffer >> give (done 0 x)))) c m below there
      ∙ check_ends (refused 12 model) (not (in_use d.caps a))
      (drop_slot e a model >>= (λ x. empty_buffer >> give (done 0 x))) m (ap not used)
      ∙ ap (λ (n : ℕ). reads m (inl (refused n model))) (sym is))

  -- the entry that is cleared is there
  pub can_clear_at : (u v : Option ℕ) → u ≡ mapped_at (cap_at d.caps a) → v ≡ installed_at (cap_at d.caps a)
      → CanClear m d.map memory.frames u v
  can_clear_at u v is at =
      subst (λ (u : Option ℕ). CanClear m d.map memory.frames u v) (sym is)
      (subst (λ (v : Option ℕ). CanClear m d.map memory.frames (mapped_at (cap_at d.caps a)) v) (sym at)
      (subst (λ (r : ℕ). CanClear m r memory.frames (mapped_at (cap_at d.caps a)) (installed_at (cap_at d.caps a))) (sym h.has.root)
      (subst (λ (n : ℕ). CanClear m e.root n (mapped_at (cap_at d.caps a)) (installed_at (cap_at d.caps a))) h.frames
      (can_clear e model m (kept e memory m d readings replies h) a (cap_at d.caps a) refl))))

  module _ (below : a < 64) where
    -- what comes back is the pool's own, and isn't free
    pub page_own : (held : Option ℕ) → Back d.caps a held → IfSome held (λ f. IsOwn d.pool.share f)
    page_own None back = tt
    page_own (Some f) back =
        subst (λ (p : FreeList). IsOwn p.share f) (sym h.has.pool) (own_frame e d.caps m h.has.slots h.estate
        h.facts a below f (page_frame (cap_at d.caps a) f back.0))

    pub page_out : (held : Option ℕ) → Back d.caps a held → IfSome held (λ f. is_free d.pool f ≡ false)
    page_out None back = tt
    page_out (Some f) back =
        subst (λ (p : FreeList). is_free p f ≡ false) (sym h.has.pool)
        (out_frame e d.caps m h.has.slots h.estate h.facts a below f
        (page_frame (cap_at d.caps a) f back.0))

    pub table_own : (table : Option ℕ) → table ≡ table_of (cap_at d.caps a)
        → IfSome table (λ f. IsOwn d.pool.share f)
    table_own None is = tt
    table_own (Some f) is =
        subst (λ (p : FreeList). IsOwn p.share f) (sym h.has.pool) (own_frame e d.caps m h.has.slots h.estate
        h.facts a below f (table_frame (cap_at d.caps a) f (sym is)))

    pub table_out : (table : Option ℕ) → table ≡ table_of (cap_at d.caps a)
        → IfSome table (λ f. is_free d.pool f ≡ false)
    table_out None is = tt
    table_out (Some f) is =
        subst (λ (p : FreeList). is_free p f ≡ false) (sym h.has.pool)
        (out_frame e d.caps m h.has.slots h.estate h.facts a below f
        (table_frame (cap_at d.caps a) f (sym is)))

    given_free : (held table : Option ℕ) → Back d.caps a held → table ≡ table_of (cap_at d.caps a)
        → given_back (free_of e d.caps) held table ≡ free_of e (with_cap d.caps a None)
    given_free (Some f) table back is = page_back e d.caps m h.has.slots h.estate h.facts a below f back.0 back.1
    given_free None (Some f) back is = table_back e d.caps m h.has.slots h.estate h.facts a below f (sym is)
    given_free None None back is = none_back e d.caps m h.has.slots h.estate h.facts a below (cap_at d.caps a) refl back (sym is)

    pub delete_ends : (c : Cap) (caps : Slots) (pool : FreeList) (map : ℕ) (memory' : Contents)
        (u v held table : Option ℕ) (x : Done)
        → cap_at d.caps a ≡ Some c → in_use d.caps a ≡ false → caps ≡ with_cap d.caps a None
        → u ≡ mapped_at (cap_at d.caps a) → v ≡ installed_at (cap_at d.caps a)
        → Back d.caps a held → table ≡ table_of (cap_at d.caps a) → pool ≡ given_back d.pool held table → map ≡ d.map
        → x.value ≡ 0 → Leaves 7 memory' x.work (clear_at d.map u v m)
        → DoneWith 7 e model caps pool map memory' x (delete e model a m)
    unfolding with_caps work_of
    delete_ends c caps pool map memory' u v held table x there unused is unmapped_is installed_is back
        table_is pool_is map_is value leaves =
        let s = mapped_at (cap_at d.caps a) in
        let t = installed_at (cap_at d.caps a) in
        let left : Leaves 7 memory' x.work (clear_at e.root s t m) =
        subst (λ (r : ℕ). Leaves 7 memory' x.work (clear_at r s t m)) h.has.root
        (subst (λ (v : Option ℕ). Leaves 7 memory' x.work (clear_at d.map s v m)) installed_is
        (subst (λ (u : Option ℕ). Leaves 7 memory' x.work (clear_at d.map u v m)) unmapped_is leaves)) in
        subst (λ (r : act.Done Mem Note Dom Dom). DoneWith 7 e model caps pool map memory' x r)
        (sym (delete_runs e model a c m below there unused))
        (record {
          value =
              ap (λ (s : Slots). inr (done 0 (record model { caps = s }))) (sym is)
              ∙ ap (λ (v : ℕ). inr (done v (record model { caps = caps }))) (sym value);
          holds = left.holds;
          told = left.told ∙ sym (buffer_work 7 (clear_at e.root s t m).notes);
          root = map_is ∙ h.has.root;
          free =
              pool_is ∙ ap (λ (p : FreeList). given_back p held table) h.has.pool
              ∙ given_free held table back table_is ∙ ap (free_of e) (sym is);
          slots = ap length is ∙ long_set d.caps h.has.slots a None;
        })
