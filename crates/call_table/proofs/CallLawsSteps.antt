-- What the steps of calls leave: an early end leaves the domain's facts, and each test says what holds after it.
use Rattle.std.proofs.Common.{◌≡◌, ℕ, ◌<◌, Bool, true, false, ltb-true, Option, Some, None, List, length, ◌⊎◌, inl, inr, refl, ap, sym, subst, ◌∙◌}
use Rattle.std.specs.Prelude.{nat_lt, if◌then◌else◌}
use Rattle.tp_base.specs.Act.{Done, go_on, ◌>>=◌, ◌>>◌, give, stop, check, either}
use Rattle.phys_mem.specs.Mem.{Mem, zeroed_frame}
use Rattle.page_map.specs.declared.refusal.MapRefusal.{MapRefusal}
use Rattle.page_map.specs.Tables.{map_refusal, install_refusal}
use Rattle.page_map.specs.Changes.{mapped, unmapped, installed}
use Rattle.cap_table.specs.declared.Cap.{Cap}
use Rattle.cap_table.specs.declared.Cap.TheVariants as cap
use Rattle.cap_table.specs.Slots.{Slots, cap_at}
use Rattle.call_table.specs.Domain.{Dom, placed, replied, done, refused, exited, with_caps}
use Rattle.call_table.specs.Claims.{Claim, Estate, is_mine, claim_of, claims, Facts}
use Rattle.call_table.specs.Calls.{Note, Act, zero_out, page_refusal, table_refusal, map_at, unmap_at, unmap_all, install_at, uninstall_at, empty_buffer, some_or, is_slot, filled, allowed, error_of, unless_refused, clear_entry, with_slot}
use Rattle.call_table.specs.Laws.{Kept, LeavesKept}
use Rattle.call_table.proofs.ClaimLaws.{with_claim}
use Rattle.call_table.proofs.ClaimLawsSlots.{claims_set, long_set}
use Rattle.call_table.proofs.RevokedSlots.{after_all}
use Rattle.call_table.proofs.QuietCalls.{QuietEnd, Quiet}

-- the facts of a memory and of a domain's claims, with another claim at a slot
abbrev pub FactsWith : Estate → Dom → ℕ → Claim → Mem → Type 0
FactsWith e d a y n = Facts e.root (is_mine e) (with_claim (claims e d.caps) a y) n

module _ (e : Estate) where
  -- ---- facts do not hang on threads, replies or what was printed

  pub kept_replied : (d : Dom) (m : Mem) (code value : ℕ) → Kept e d m → Kept e (replied code value d) m
  unfolding replied placed
  kept_replied d m code value h = record { slots = h.slots; facts = h.facts }

  pub kept_exited : (d : Dom) (m : Mem) (code : ℕ) → Kept e d m → Kept e (exited code d) m
  unfolding exited
  kept_exited d m code h = record { slots = h.slots; facts = h.facts }

  pub kept_printed : (d : Dom) (m : Mem) (bytes : List ℕ) → Kept e d m
      → Kept e (record d { printed = bytes }) m
  kept_printed d m bytes h = record { slots = h.slots; facts = h.facts }

  kept_end : (d : Dom) (m : Mem) (v : Dom ⊎ Dom) → Kept e d m → QuietEnd d v → Kept e (either v) m
  unfolding either
  kept_end d m (inl x) h r = subst (λ (y : Dom). Kept e y m) (sym r.reply) (kept_replied d m r.code 0 h)
  kept_end d m (inr x) h same = record {
    slots = ap length same ∙ h.slots;
    facts = subst (λ (caps : Slots). Facts e.root (is_mine e) (claims e caps) m) (sym same) h.facts;
  }

  -- a slot is set, and one claim with it
  pub kept_slot : (d : Dom) (m n : Mem) (a : ℕ) (x : Option Cap) → Kept e d m → a < 64
      → FactsWith e d a (claim_of x) n → Kept e (with_slot d a x) n
  unfolding with_caps
  kept_slot d m n a x h below facts = record {
    slots = long_set d.caps h.slots a x;
    facts = subst (λ k. Facts e.root (is_mine e) k n) (sym (claims_set e d.caps h.slots a x below)) facts;
  }

  pub kept_with : (d : Dom) (m n : Mem) (a : ℕ) (x : Option Cap) (value : ℕ) → Kept e d m → a < 64
      → FactsWith e d a (claim_of x) n → Kept e (done value (with_slot d a x)) n
  kept_with d m n a x value h below facts = kept_replied (with_slot d a x) n 0 value (kept_slot d m n a x h below facts)

  -- ---- what a chain leaves

  pub record Ends (r : Done Mem Note Dom Dom) : Type 0 where
    pub kept : LeavesKept e r

  pub give_ends : (d : Dom) (m : Mem) → Kept e d m → Ends (give d m)
  unfolding give either
  give_ends d m h = record { kept = h }

  pub stop_ends : (d : Dom) (m : Mem) → Kept e d m → Ends (stop d m)
  unfolding stop either
  stop_ends d m h = record { kept = h }

  pub quiet_ends : (d : Dom) (m : Mem) (y : Act Dom) → Kept e d m → Quiet d y → Ends (y m)
  quiet_ends d m y h q = record {
    kept = subst (λ (n : Mem). Kept e (either (y m).value) n) (sym (q.memory m))
        (subst (λ (v : Dom ⊎ Dom). Kept e (either v) m) (sym (q.is m)) (kept_end d m q.value h q.ends));
  }

  pub if_ends : (t : Bool) (x y : Act Dom) (m : Mem) → Ends (x m) → Ends (y m) → Ends ((if t then x else y) m)
  if_ends true x y m a b = a
  if_ends false x y m a b = b

  pub check_ends : (d : Dom) (m : Mem) (code : ℕ) (b : Bool) (y : Act Dom) → Kept e d m
      → (b ≡ true → Ends (y m))
      → Ends ((check (refused code d) b >> y) m)
  unfolding check ◌>>◌ ◌>>=◌ go_on give stop either
  check_ends d m code true y h g = record { kept = (g refl).kept }
  check_ends d m code false y h g = record { kept = kept_replied d m code 0 h }

  pub some_ends : {A : Type 0} (d : Dom) (m : Mem) (code : ℕ) (x : Option A) (f : A → Act Dom) → Kept e d m
      → ((a : A) → x ≡ Some a → Ends (f a m)) → Ends ((some_or (refused code d) x >>= f) m)
  unfolding some_or ◌>>=◌ go_on give stop either
  some_ends d m code None f h g = record { kept = kept_replied d m code 0 h }
  some_ends d m code (Some a) f h g = record { kept = (g a refl).kept }

  pub slot_ends : (d : Dom) (m : Mem) (a : ℕ) (y : Act Dom) → Kept e d m → (a < 64 → Ends (y m))
      → Ends ((is_slot d a >> y) m)
  unfolding is_slot
  slot_ends d m a y h g = check_ends d m 2 (nat_lt a 64) y h (λ is. g (ltb-true a 64 is))

  filled_by : (d : Dom) (m : Mem) (b : Bool) (x : Option Cap) (f : Cap → Act Dom) → Kept e d m
      → ((c : Cap) → b ≡ true → x ≡ Some c → Ends (f c m))
      → Ends (((check (refused 2 d) b >> some_or (refused 3 d) x) >>= f) m)
  unfolding check some_or ◌>>◌ ◌>>=◌ go_on give stop either
  filled_by d m false x f h g = record { kept = kept_replied d m 2 0 h }
  filled_by d m true None f h g = record { kept = kept_replied d m 3 0 h }
  filled_by d m true (Some c) f h g = record { kept = (g c refl refl).kept }

  pub filled_ends : (d : Dom) (m : Mem) (a : ℕ) (f : Cap → Act Dom) → Kept e d m
      → ((c : Cap) → a < 64 → cap_at d.caps a ≡ Some c → Ends (f c m)) → Ends ((filled d a >>= f) m)
  unfolding filled is_slot
  filled_ends d m a f h g = filled_by d m (nat_lt a 64) (cap_at d.caps a) f h (λ c is. g c (ltb-true a 64 is))

  pub page_refusal_ends : (m : Mem) (root va : ℕ) (f : Option MapRefusal → Act Dom)
      → Ends (f (map_refusal m root va) m)
      → Ends ((page_refusal root va >>= f) m)
  unfolding page_refusal ◌>>=◌ go_on either
  page_refusal_ends m root va f h = record { kept = h.kept }

  pub table_refusal_ends : (m : Mem) (root va : ℕ) (f : Option MapRefusal → Act Dom)
      → Ends (f (install_refusal m root va) m)
      → Ends ((table_refusal root va >>= f) m)
  unfolding table_refusal ◌>>=◌ go_on either
  table_refusal_ends m root va f h = record { kept = h.kept }

  pub allowed_ends : (d : Dom) (m : Mem) (x : Option MapRefusal) (y : Act Dom) → Kept e d m
      → (x ≡ None → Ends (y m))
      → Ends ((allowed d x >> y) m)
  unfolding allowed ◌>>◌ ◌>>=◌ go_on give stop either
  allowed_ends d m None y h g = record { kept = (g refl).kept }
  allowed_ends d m (Some r) y h g = record { kept = kept_replied d m (error_of r) 0 h }

  pub unless_ends : (d : Dom) (m : Mem) (x : Option ℕ) (y : Act Dom) → Kept e d m → (x ≡ None → Ends (y m))
      → Ends ((unless_refused d x >> y) m)
  unfolding unless_refused ◌>>◌ ◌>>=◌ go_on give stop either
  unless_ends d m None y h g = record { kept = (g refl).kept }
  unless_ends d m (Some code) y h g = record { kept = kept_replied d m code 0 h }

  -- ---- steps over memory

  pub zero_ends : (m : Mem) (f : ℕ) (y : Act Dom) → Ends (y (zeroed_frame m f)) → Ends ((zero_out f >> y) m)
  unfolding zero_out ◌>>◌ ◌>>=◌ go_on either
  zero_ends m f y h = record { kept = h.kept }

  pub map_at_ends : (m : Mem) (root va f rights : ℕ) (y : Act Dom) → Ends (y (mapped m root va f rights))
      → Ends ((map_at root va f rights >> y) m)
  unfolding map_at ◌>>◌ ◌>>=◌ go_on either
  map_at_ends m root va f rights y h = record { kept = h.kept }

  pub unmap_at_ends : (m : Mem) (root va : ℕ) (y : Act Dom) → Ends (y (unmapped m root va))
      → Ends ((unmap_at root va >> y) m)
  unfolding unmap_at ◌>>◌ ◌>>=◌ go_on either
  unmap_at_ends m root va y h = record { kept = h.kept }

  pub install_at_ends : (m : Mem) (root va f : ℕ) (y : Act Dom) → Ends (y (installed m root va f))
      → Ends ((install_at root va f >> y) m)
  unfolding install_at ◌>>◌ ◌>>=◌ go_on either
  install_at_ends m root va f y h = record { kept = h.kept }

  pub unmap_all_ends : (m : Mem) (root : ℕ) (vas : List ℕ) (y : Act Dom)
      → Ends (y (unmap_all root vas m).state)
      → Ends ((unmap_all root vas >> y) m)
  unmap_all_ends m root vas y h = record { kept = subst (LeavesKept e) (sym (after_all root vas y m)) h.kept }

  pub buffer_ends : (m : Mem) (y : Act Dom) → Ends (y m) → Ends ((empty_buffer >> y) m)
  unfolding empty_buffer ◌>>◌ ◌>>=◌ go_on either
  buffer_ends m y h = record { kept = h.kept }

  pub clear_ends : (m : Mem) (root : ℕ) (c : Option Cap) (y : Act Dom) → Ends (y (clear_entry root c m).state)
      → Ends ((clear_entry root c >> y) m)
  unfolding clear_entry unmap_at uninstall_at give ◌>>◌ ◌>>=◌ go_on either
  clear_ends m root None y h = record { kept = h.kept }
  clear_ends m root (Some (cap.Frame f rights None)) y h = record { kept = h.kept }
  clear_ends m root (Some (cap.Frame f rights (Some va))) y h = record { kept = h.kept }
  clear_ends m root (Some (cap.Table f None)) y h = record { kept = h.kept }
  clear_ends m root (Some (cap.Table f (Some va))) y h = record { kept = h.kept }
  clear_ends m root (Some (cap.Irq line)) y h = record { kept = h.kept }

  -- ---- one action after another

  on_ends : (r : Done Mem Note Dom Dom) (f : Dom → Act Dom) (v : Dom ⊎ Dom) → Kept e (either v) r.state
      → ((d : Dom) (m : Mem) → Kept e d m → Ends (f d m)) → Ends (go_on r f v)
  unfolding go_on either
  on_ends r f (inl d) h g = record { kept = h }
  on_ends r f (inr d) h g = record { kept = (g d r.state h).kept }

  pub bind_ends : (x : Act Dom) (f : Dom → Act Dom) (m : Mem) → Ends (x m)
      → ((d : Dom) (m : Mem) → Kept e d m → Ends (f d m))
      → Ends ((x >>= f) m)
  unfolding ◌>>=◌
  bind_ends x f m h g = on_ends (x m) f (x m).value h.kept g
