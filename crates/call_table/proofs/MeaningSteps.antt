-- What holds of an action's end, step by step: of the domain that is refused, or of the value and the memory.
use Rattle.std.proofs.Common.{◌≡◌, ◌⊎◌, sym, subst, refl, inl, inr, ℕ, Bool, true, false, List, Option, Some, None}
use Rattle.std.specs.Prelude.{nat_lt, if◌then◌else◌}
use Rattle.tp_base.specs.Act.{Done, go_on, ◌>>=◌, ◌>>◌, give, stop, check, either}
use Rattle.phys_mem.specs.Mem.{Mem, zeroed_frame}
use Rattle.page_map.specs.declared.refusal.MapRefusal.{MapRefusal}
use Rattle.page_map.specs.Tables.{map_refusal, install_refusal}
use Rattle.page_map.specs.Changes.{mapped, unmapped, installed, uninstalled}
use Rattle.cap_table.specs.declared.Cap.{Cap}
use Rattle.cap_table.specs.declared.Cap.TheVariants as cap
use Rattle.cap_table.specs.Slots.{cap_at, line_of}
use Rattle.call_table.specs.Domain.{Dom, refused}
use Rattle.call_table.specs.Claims.{Estate}
use Rattle.call_table.specs.Calls.{Note, Act, line_in, line_at, clear_entry, drop_slot, with_slot, zero_out, page_refusal, table_refusal, map_at, unmap_at, unmap_all, install_at, uninstall_at, empty_buffer, some_or, is_slot, filled, allowed, error_of, unless_refused}
use Rattle.call_table.proofs.RevokedSlots.{after_all}
use Rattle.call_table.proofs.QuietCalls.{QuietEnd, Quiet}

abbrev pub Ends : {A : Type 0} → (Dom → Type 0) → (A → Mem → Type 0) → Dom ⊎ A → Mem → Type 0
Ends Q P (inl d) m = Q d
Ends Q P (inr a) m = P a m

-- nothing is said of an early end
abbrev pub Whatever : Dom → Type 0
Whatever d = Unit {0}

-- an early end meets Q, or the value and the memory meet P
pub record Gives {A : Type 0} (Q : Dom → Type 0) (P : A → Mem → Type 0) (r : Done Mem Note Dom A) : Type 0 where
  pub ends : Ends Q P r.value r.state

-- of an end that is known
pub given : {A : Type 0} (Q : Dom → Type 0) (P : A → Mem → Type 0) (r : Done Mem Note Dom A) → Gives Q P r
    → (a : A) → r.value ≡ inr a → P a r.state
given {A} Q P r g a e = by_value r.value e g.ends
  where
    by_value : (v : Dom ⊎ A) → v ≡ inr a → Ends Q P v r.state → P a r.state
    by_value (inl d) e h = absurd (cc e)
    by_value (inr b) e h = let same : b ≡ a = cc e in subst (λ (c : A). P c r.state) same h

-- what either end meets
pub either_gives : (P : Dom → Type 0) (r : Done Mem Note Dom Dom) → Gives P (λ x n. P x) r
    → P (either r.value)
unfolding either
either_gives P r g = by_value r.value g.ends
  where
    by_value : (v : Dom ⊎ Dom) → Ends P (λ x n. P x) v r.state → P (either v)
    by_value (inl x) h = h
    by_value (inr x) h = h

module _ {A B : Type 0} (Q : Dom → Type 0) (R : A → Mem → Type 0) (P : B → Mem → Type 0) where
  after : (r : Done Mem Note Dom A) (f : A → Act B) (v : Dom ⊎ A) → Ends Q R v r.state
      → ((a : A) (n : Mem) → R a n → Gives Q P (f a n)) → Gives Q P (go_on r f v)
  unfolding go_on
  after r f (inl d) h g = record { ends = h }
  after r f (inr a) h g = record { ends = (g a r.state h).ends }

  pub bind_gives : (x : Act A) (f : A → Act B) (m : Mem) → Gives Q R (x m)
      → ((a : A) (n : Mem) → R a n → Gives Q P (f a n)) → Gives Q P ((x >>= f) m)
  unfolding ◌>>=◌
  bind_gives x f m h g = after (x m) f (x m).value h.ends g

module _ {A : Type 0} (Q : Dom → Type 0) (P : A → Mem → Type 0) (m : Mem) where
  pub give_gives : (a : A) → P a m → Gives Q P (give a m)
  unfolding give
  give_gives a h = record { ends = h }

  pub stop_gives : (d : Dom) → Q d → Gives Q P (stop d m)
  unfolding stop
  stop_gives d h = record { ends = h }

  pub if_gives : (t : Bool) (x y : Act A) → (t ≡ true → Gives Q P (x m)) → Gives Q P (y m)
      → Gives Q P ((if t then x else y) m)
  if_gives true x y h g = h refl
  if_gives false x y h g = g

  -- ---- changes of memory

  pub zero_gives : (f : ℕ) (y : Act A) → Gives Q P (y (zeroed_frame m f)) → Gives Q P ((zero_out f >> y) m)
  unfolding zero_out ◌>>◌ ◌>>=◌ go_on
  zero_gives f y h = record { ends = h.ends }

  pub map_gives : (root va f rights : ℕ) (y : Act A) → Gives Q P (y (mapped m root va f rights))
      → Gives Q P ((map_at root va f rights >> y) m)
  unfolding map_at ◌>>◌ ◌>>=◌ go_on
  map_gives root va f rights y h = record { ends = h.ends }

  pub unmap_gives : (root va : ℕ) (y : Act A) → Gives Q P (y (unmapped m root va))
      → Gives Q P ((unmap_at root va >> y) m)
  unfolding unmap_at ◌>>◌ ◌>>=◌ go_on
  unmap_gives root va y h = record { ends = h.ends }

  pub install_gives : (root va f : ℕ) (y : Act A) → Gives Q P (y (installed m root va f))
      → Gives Q P ((install_at root va f >> y) m)
  unfolding install_at ◌>>◌ ◌>>=◌ go_on
  install_gives root va f y h = record { ends = h.ends }

  pub uninstall_gives : (root va : ℕ) (y : Act A) → Gives Q P (y (uninstalled m root va))
      → Gives Q P ((uninstall_at root va >> y) m)
  unfolding uninstall_at ◌>>◌ ◌>>=◌ go_on
  uninstall_gives root va y h = record { ends = h.ends }

  pub unmap_all_gives : (root : ℕ) (vas : List ℕ) (y : Act A) → Gives Q P (y (unmap_all root vas m).state)
      → Gives Q P ((unmap_all root vas >> y) m)
  unmap_all_gives root vas y h = record {
    ends = subst (λ (r : Done Mem Note Dom A). Ends Q P r.value r.state) (sym (after_all root vas y m)) h.ends;
  }

  pub buffer_gives : (y : Act A) → Gives Q P (y m) → Gives Q P ((empty_buffer >> y) m)
  unfolding empty_buffer ◌>>◌ ◌>>=◌ go_on
  buffer_gives y h = record { ends = h.ends }

  pub nothing_gives : (y : Act A) → Gives Q P (y m) → Gives Q P ((give {A = Unit {0}} tt >> y) m)
  unfolding give ◌>>◌ ◌>>=◌ go_on
  nothing_gives y h = record { ends = h.ends }

  pub clear_gives : (root : ℕ) (c : Option Cap) (y : Act A) → Gives Q P (y (clear_entry root c m).state)
      → Gives Q P ((clear_entry root c >> y) m)
  unfolding clear_entry unmap_at uninstall_at give ◌>>◌ ◌>>=◌ go_on
  clear_gives root (Some (cap.Frame f rights (Some va))) y h = record { ends = h.ends }
  clear_gives root (Some (cap.Table f (Some va))) y h = record { ends = h.ends }
  clear_gives root (Some (cap.Frame f rights None)) y h = record { ends = h.ends }
  clear_gives root (Some (cap.Table f None)) y h = record { ends = h.ends }
  clear_gives root (Some (cap.Irq line)) y h = record { ends = h.ends }
  clear_gives root None y h = record { ends = h.ends }

  pub page_refusal_gives : (root va : ℕ) (f : Option MapRefusal → Act A)
      → Gives Q P (f (map_refusal m root va) m) → Gives Q P ((page_refusal root va >>= f) m)
  unfolding page_refusal ◌>>=◌ go_on
  page_refusal_gives root va f h = record { ends = h.ends }

  pub table_refusal_gives : (root va : ℕ) (f : Option MapRefusal → Act A)
      → Gives Q P (f (install_refusal m root va) m) → Gives Q P ((table_refusal root va >>= f) m)
  unfolding table_refusal ◌>>=◌ go_on
  table_refusal_gives root va f h = record { ends = h.ends }

  -- ---- tests

  module _ (d : Dom) (q : (code : ℕ) → Q (refused code d)) where
    pub check_gives : (code : ℕ) (t : Bool) (y : Act A) → (t ≡ true → Gives Q P (y m))
        → Gives Q P ((check (refused code d) t >> y) m)
    unfolding check ◌>>◌ ◌>>=◌ go_on give stop
    check_gives code true y g = record { ends = (g refl).ends }
    check_gives code false y g = record { ends = q code }

    pub some_gives : {B : Type 0} (code : ℕ) (x : Option B) (f : B → Act A)
        → ((a : B) → x ≡ Some a → Gives Q P (f a m))
        → Gives Q P ((some_or (refused code d) x >>= f) m)
    unfolding some_or ◌>>=◌ go_on give stop
    some_gives code None f g = record { ends = q code }
    some_gives code (Some a) f g = record { ends = (g a refl).ends }

    filled_by : (t : Bool) (x : Option Cap) (f : Cap → Act A)
        → (t ≡ true → (c : Cap) → x ≡ Some c → Gives Q P (f c m))
        → Gives Q P (((check (refused 2 d) t >> some_or (refused 3 d) x) >>= f) m)
    unfolding check some_or ◌>>◌ ◌>>=◌ go_on give stop
    filled_by false x f g = record { ends = q 2 }
    filled_by true None f g = record { ends = q 3 }
    filled_by true (Some a) f g = record { ends = (g refl a refl).ends }

    pub filled_gives : (a : ℕ) (f : Cap → Act A)
        → (nat_lt a 64 ≡ true → (c : Cap) → cap_at d.caps a ≡ Some c → Gives Q P (f c m))
        → Gives Q P ((filled d a >>= f) m)
    unfolding filled is_slot
    filled_gives a f g = filled_by (nat_lt a 64) (cap_at d.caps a) f g

    line_by : (t : Bool) (x : Option Cap) (f : ℕ → Act A)
        → ((line : ℕ) → line_of x ≡ Some line → Gives Q P (f line m))
        → Gives Q P ((((check (refused 2 d) t >> some_or (refused 3 d) x) >>= (λ c. some_or (refused 5 d) (line_in c))) >>= f) m)
    unfolding check some_or ◌>>◌ ◌>>=◌ go_on give stop
    line_by false x f g = record { ends = q 2 }
    line_by true None f g = record { ends = q 3 }
    line_by true (Some (cap.Frame h rights w)) f g = record { ends = q 5 }
    line_by true (Some (cap.Table h w)) f g = record { ends = q 5 }
    line_by true (Some (cap.Irq line)) f g = record { ends = (g line refl).ends }

    pub line_gives : (a : ℕ) (f : ℕ → Act A)
        → ((line : ℕ) → line_of (cap_at d.caps a) ≡ Some line → Gives Q P (f line m))
        → Gives Q P ((line_at d a >>= f) m)
    unfolding line_at filled is_slot
    line_gives a f g = line_by (nat_lt a 64) (cap_at d.caps a) f g

    pub allowed_gives : (r : Option MapRefusal) (y : Act A) → (r ≡ None → Gives Q P (y m))
        → Gives Q P ((allowed d r >> y) m)
    unfolding allowed ◌>>◌ ◌>>=◌ go_on give stop
    allowed_gives None y g = record { ends = (g refl).ends }
    allowed_gives (Some r) y g = record { ends = q (error_of r) }

    pub unless_gives : (r : Option ℕ) (y : Act A) → (r ≡ None → Gives Q P (y m))
        → Gives Q P ((unless_refused d r >> y) m)
    unfolding unless_refused ◌>>◌ ◌>>=◌ go_on give stop
    unless_gives None y g = record { ends = (g refl).ends }
    unless_gives (Some code) y g = record { ends = q code }

-- a call that does no work and leaves all slots
module _ (Q : Dom → Type 0) (P : Dom → Mem → Type 0) (d : Dom) (q : (code : ℕ) → Q (refused code d)) (m : Mem) where
  quiet_end : (v : Dom ⊎ Dom) (n : Mem) → QuietEnd d v → ((x : Dom) → x.caps ≡ d.caps → P x n) → Ends Q P v n
  quiet_end (inl x) n r h = subst Q (sym r.reply) (q r.code)
  quiet_end (inr x) n same h = h x same

  pub quiet_gives : (y : Act Dom) → Quiet d y → ((x : Dom) → x.caps ≡ d.caps → P x m) → Gives Q P (y m)
  quiet_gives y z h = record {
    ends = subst (λ (v : Dom ⊎ Dom). Ends Q P v (y m).state) (sym (z.is m))
        (subst (λ (n : Mem). Ends Q P z.value n) (sym (z.memory m)) (quiet_end z.value m z.ends h));
  }

-- what is left of a domain by a slot that is emptied
module _ (e : Estate) (Q : Dom → Type 0) (P : Dom → Type 0) (emptied : (x : Dom) (i : ℕ) → P x → P (with_slot x i None)) where
  abbrev Left : Dom → Mem → Type 0
  Left x n = P x

  pub drop_gives : (i : ℕ) (x : Dom) (m : Mem) → P x → Gives Q Left (drop_slot e i x m)
  unfolding drop_slot
  drop_gives i x m h = clear_gives Q Left m e.root (cap_at x.caps i) _ (give_gives Q Left _ _ (emptied x i h))
