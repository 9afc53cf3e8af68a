-- An early end of a call is a refusal.
use Rattle.std.proofs.Common.{◌≡◌, ℕ, Bool, true, false, Option, Some, None, List, [], ◌⊎◌, inl, inr, refl, ap, sym, subst, ◌∙◌}
use Rattle.std.specs.Prelude.{nat_eq, nat_lt, if◌then◌else◌}
use Rattle.tp_base.specs.Act.{Done, go_on, ◌>>=◌, ◌>>◌, give, stop, check}
use Rattle.phys_mem.specs.Mem.{Mem}
use Rattle.page_map.specs.declared.refusal.MapRefusal.{MapRefusal}
use Rattle.page_map.specs.declared.refusal.MapRefusal.TheVariants as refusal
use Rattle.page_map.specs.Tables.{map_refusal, install_refusal}
use Rattle.cap_table.specs.declared.Cap.{Cap}
use Rattle.cap_table.specs.declared.Cap.TheVariants as cap
use Rattle.cap_table.specs.Slots.{cap_at}
use Rattle.rv_core.specs.Registers.{register}
use Rattle.call_table.specs.Domain.{Dom, refused, exited}
use Rattle.call_table.specs.Claims.{Estate}
use Rattle.call_table.specs.Calls.{Note, Act, zero_out, page_refusal, table_refusal, map_at, unmap_at, install_at, uninstall_at, empty_buffer, some_or, is_slot, filled, allowed, error_of, put_byte, alloc, install, map_page, unmap, may_give, copy_refusal, unless_refused, copy, clear_entry, drop_slot, delete, unmap_all, revoke, call_of, call, with_slot, number_made}
use Rattle.kernel_clone.specs.Footprints.{bad_call_op}
use Rattle.call_table.specs.Laws.{IsRefusal, RefusalLaw, LeftOutLaw}
use Rattle.call_table.proofs.RevokedSlots.{after_all}
use Rattle.call_table.proofs.QuietCalls.{IsCode, is_code, IsRefused, QuietEnd, Quiet, later_quiet}

-- an action whose early ends are refusals
pub record Tidy (d : Dom) (y : Act Dom) : Type 0 where
  pub ends : (m : Mem) (x : Dom) → (y m).value ≡ inl x → IsRefusal d m (y m) x

-- an action that never ends early
pub record Sure (y : Act Dom) : Type 0 where
  pub goes : (m : Mem) (x : Dom) → (y m).value ≡ inl x → ⊥

left : {a b : Dom} → ◌≡◌ {A = Dom ⊎ Dom} (inl a) (inl b) → a ≡ b
left e = cc e

-- the codes of errors
two : IsCode 2
two = is_code 2 refl

three : IsCode 3
three = is_code 3 refl

four : IsCode 4
four = is_code 4 refl

five : IsCode 5
five = is_code 5 refl

six : IsCode 6
six = is_code 6 refl

seven : IsCode 7
seven = is_code 7 refl

eight : IsCode 8
eight = is_code 8 refl

nine : IsCode 9
nine = is_code 9 refl

ten : IsCode 10
ten = is_code 10 refl

eleven : IsCode 11
eleven = is_code 11 refl

twelve : IsCode 12
twelve = is_code 12 refl

error_code : (r : MapRefusal) → IsCode (error_of r)
error_code refusal.BadAddress = seven
error_code refusal.Mapped = eight
error_code refusal.NoTable = nine

-- a code, where there is one
abbrev AllCodes : Option ℕ → Type 0
AllCodes o = (code : ℕ) → o ≡ Some code → IsCode code

stopped : (d x : Dom) (m : Mem) (code : ℕ) → IsCode code → ◌≡◌ {A = Dom ⊎ Dom} (inl (refused code d)) (inl x)
    → IsRefusal d m (record { notes = []; state = m; value = inl (refused code d) }) x
stopped d x m code c e = record { code = code; some = c.some; few = c.few; reply = sym (left e); memory = refl; no_work = refl }

module _ (d : Dom) where
  sure_tidy : (y : Act Dom) → Sure y → Tidy d y
  sure_tidy y h = record { ends = λ m x e. absurd (h.goes m x e) }

  refused_by : (v : Dom ⊎ Dom) (x : Dom) → QuietEnd d v → v ≡ inl x → IsRefused d x
  refused_by (inl z) x r e = subst (IsRefused d) (left e) r
  refused_by (inr z) x same e = absurd (cc e)

  quiet_tidy : (y : Act Dom) → Quiet d y → Tidy d y
  quiet_tidy y q = record {
    ends = λ m x e. let r : IsRefused d x = refused_by q.value x q.ends (sym (q.is m) ∙ e) in
        record { code = r.code; some = r.error.some; few = r.error.few; reply = r.reply; memory = q.memory m; no_work = q.no_work m };
  }

  if_tidy : (t : Bool) (x y : Act Dom) → Tidy d x → Tidy d y → Tidy d (if t then x else y)
  if_tidy true x y a b = a
  if_tidy false x y a b = b

  check_tidy : (code : ℕ) (b : Bool) (y : Act Dom) → IsCode code → Tidy d y
      → Tidy d (check (refused code d) b >> y)
  unfolding check ◌>>◌ ◌>>=◌ go_on give stop
  check_tidy code true y c h = record {
    ends = λ m x e. let r = h.ends m x e in
        record { code = r.code; some = r.some; few = r.few; reply = r.reply; memory = r.memory; no_work = r.no_work };
  }
  check_tidy code false y c h = record { ends = λ m x e. stopped d x m code c e }

  some_tidy : {A : Type 0} (code : ℕ) (o : Option A) (f : A → Act Dom) → IsCode code
      → ((a : A) → Tidy d (f a))
      → Tidy d (some_or (refused code d) o >>= f)
  unfolding some_or ◌>>=◌ go_on give stop
  some_tidy code None f c h = record { ends = λ m x e. stopped d x m code c e }
  some_tidy code (Some a) f c h = record {
    ends = λ m x e. let r = (h a).ends m x e in
        record { code = r.code; some = r.some; few = r.few; reply = r.reply; memory = r.memory; no_work = r.no_work };
  }

  filled_by : (b : Bool) (o : Option Cap) (f : Cap → Act Dom) → ((c : Cap) → Tidy d (f c))
      → Tidy d ((check (refused 2 d) b >> some_or (refused 3 d) o) >>= f)
  unfolding check some_or ◌>>◌ ◌>>=◌ go_on give stop
  filled_by false o f h = record { ends = λ m x e. stopped d x m 2 two e }
  filled_by true None f h = record { ends = λ m x e. stopped d x m 3 three e }
  filled_by true (Some c) f h = record {
    ends = λ m x e. let r = (h c).ends m x e in
        record { code = r.code; some = r.some; few = r.few; reply = r.reply; memory = r.memory; no_work = r.no_work };
  }

  filled_tidy : (a : ℕ) (f : Cap → Act Dom) → ((c : Cap) → Tidy d (f c)) → Tidy d (filled d a >>= f)
  unfolding filled is_slot
  filled_tidy a f h = filled_by (nat_lt a 64) (cap_at d.caps a) f h

  slot_tidy : (a : ℕ) (y : Act Dom) → Tidy d y → Tidy d (is_slot d a >> y)
  unfolding is_slot
  slot_tidy a y h = check_tidy 2 (nat_lt a 64) y two h

  page_refusal_tidy : (root va : ℕ) (f : Option MapRefusal → Act Dom)
      → ((r : Option MapRefusal) → Tidy d (f r))
      → Tidy d (page_refusal root va >>= f)
  unfolding page_refusal ◌>>=◌ go_on
  page_refusal_tidy root va f h = record {
    ends = λ m x e. let r = (h (map_refusal m root va)).ends m x e in
        record { code = r.code; some = r.some; few = r.few; reply = r.reply; memory = r.memory; no_work = r.no_work };
  }

  table_refusal_tidy : (root va : ℕ) (f : Option MapRefusal → Act Dom)
      → ((r : Option MapRefusal) → Tidy d (f r))
      → Tidy d (table_refusal root va >>= f)
  unfolding table_refusal ◌>>=◌ go_on
  table_refusal_tidy root va f h = record {
    ends = λ m x e. let r = (h (install_refusal m root va)).ends m x e in
        record { code = r.code; some = r.some; few = r.few; reply = r.reply; memory = r.memory; no_work = r.no_work };
  }

  allowed_tidy : (o : Option MapRefusal) (y : Act Dom) → Tidy d y → Tidy d (allowed d o >> y)
  unfolding allowed ◌>>◌ ◌>>=◌ go_on give stop
  allowed_tidy None y h = record {
    ends = λ m x e. let r = h.ends m x e in
        record { code = r.code; some = r.some; few = r.few; reply = r.reply; memory = r.memory; no_work = r.no_work };
  }
  allowed_tidy (Some w) y h = record { ends = λ m x e. stopped d x m (error_of w) (error_code w) e }

  unless_tidy : (o : Option ℕ) (y : Act Dom) → AllCodes o → Tidy d y → Tidy d (unless_refused d o >> y)
  unfolding unless_refused ◌>>◌ ◌>>=◌ go_on give stop
  unless_tidy None y c h = record {
    ends = λ m x e. let r = h.ends m x e in
        record { code = r.code; some = r.some; few = r.few; reply = r.reply; memory = r.memory; no_work = r.no_work };
  }
  unless_tidy (Some code) y c h = record { ends = λ m x e. stopped d x m code (c code refl) e }

-- ---- what never ends early

pub give_sure : (d : Dom) → Sure (give d)
unfolding give
give_sure d = record { goes = λ m x e. cc e }

pub zero_sure : (f : ℕ) (y : Act Dom) → Sure y → Sure (zero_out f >> y)
unfolding zero_out ◌>>◌ ◌>>=◌ go_on
zero_sure f y h = record { goes = λ m x e. h.goes _ x e }

pub map_at_sure : (root va f rights : ℕ) (y : Act Dom) → Sure y → Sure (map_at root va f rights >> y)
unfolding map_at ◌>>◌ ◌>>=◌ go_on
map_at_sure root va f rights y h = record { goes = λ m x e. h.goes _ x e }

pub unmap_at_sure : (root va : ℕ) (y : Act Dom) → Sure y → Sure (unmap_at root va >> y)
unfolding unmap_at ◌>>◌ ◌>>=◌ go_on
unmap_at_sure root va y h = record { goes = λ m x e. h.goes _ x e }

pub install_at_sure : (root va f : ℕ) (y : Act Dom) → Sure y → Sure (install_at root va f >> y)
unfolding install_at ◌>>◌ ◌>>=◌ go_on
install_at_sure root va f y h = record { goes = λ m x e. h.goes _ x e }

pub buffer_sure : (y : Act Dom) → Sure y → Sure (empty_buffer >> y)
unfolding empty_buffer ◌>>◌ ◌>>=◌ go_on
buffer_sure y h = record { goes = λ m x e. h.goes _ x e }

clear_sure : (root : ℕ) (c : Option Cap) (y : Act Dom) → Sure y → Sure (clear_entry root c >> y)
unfolding clear_entry unmap_at uninstall_at give ◌>>◌ ◌>>=◌ go_on
clear_sure root None y h = record { goes = λ m x e. h.goes _ x e }
clear_sure root (Some (cap.Frame f rights None)) y h = record { goes = λ m x e. h.goes _ x e }
clear_sure root (Some (cap.Frame f rights (Some va))) y h = record { goes = λ m x e. h.goes _ x e }
clear_sure root (Some (cap.Table f None)) y h = record { goes = λ m x e. h.goes _ x e }
clear_sure root (Some (cap.Table f (Some va))) y h = record { goes = λ m x e. h.goes _ x e }
clear_sure root (Some (cap.Irq line)) y h = record { goes = λ m x e. h.goes _ x e }

on_sure : (r : Done Mem Note Dom Dom) (f : Dom → Act Dom) (v : Dom ⊎ Dom) → ((x : Dom) → v ≡ inl x → ⊥)
    → ((d : Dom) → Sure (f d))
    → (x : Dom) → (go_on r f v).value ≡ inl x → ⊥
unfolding go_on
on_sure r f (inl d) g h x e = g d refl
on_sure r f (inr d) g h x e = (h d).goes r.state x e

pub bind_sure : (y : Act Dom) (f : Dom → Act Dom) → Sure y → ((d : Dom) → Sure (f d)) → Sure (y >>= f)
unfolding ◌>>=◌
bind_sure y f g h = record { goes = λ m x e. on_sure (y m) f (y m).value (g.goes m) h x e }

pub drop_sure : (e : Estate) (i : ℕ) (d : Dom) → Sure (drop_slot e i d)
unfolding drop_slot
drop_sure e i d = clear_sure e.root (cap_at d.caps i) _ (give_sure (with_slot d i None))

pub unmap_all_sure : (root : ℕ) (vas : List ℕ) (y : Act Dom) → Sure y → Sure (unmap_all root vas >> y)
unmap_all_sure root vas y h = record {
  goes = λ m x e. h.goes (unmap_all root vas m).state x (sym (ap (λ (r : Done Mem Note Dom Dom). r.value) (after_all root vas y m)) ∙ e);
}

-- ---- each call

copy_code : (x : Cap) (c : ℕ) → AllCodes (copy_refusal x c)
copy_code (cap.Frame f rights w) c code e = by_test (may_give rights c) e
  where
    by_test : (b : Bool) → (if b then None else Some 6) ≡ Some code → IsCode code
    by_test true e = absurd (cc e)
    by_test false e = let same : 6 ≡ code = cc e in subst IsCode same six
copy_code (cap.Table f w) c code e = let same : 5 ≡ code = cc e in subst IsCode same five
copy_code (cap.Irq line) c code e = absurd (cc e)

ruleset codes = (two, three, four, five, six, seven, eight, ten, eleven, twelve)

put_tidy : (d : Dom) (a : ℕ) → Tidy d (put_byte d a)
unfolding put_byte
put_tidy d a = search (check_tidy, sure_tidy, give_sure, codes) depth 30

pub alloc_tidy : (e : Estate) (d : Dom) (a b : ℕ) → Tidy d (alloc e d a b)
unfolding alloc
alloc_tidy e d a b = search (slot_tidy, check_tidy, some_tidy, sure_tidy, zero_sure, give_sure, codes) depth 30

pub install_tidy : (e : Estate) (d : Dom) (a b : ℕ) → Tidy d (install e d a b)
unfolding install
install_tidy e d a b =
    search (filled_tidy, check_tidy, some_tidy, table_refusal_tidy, allowed_tidy, sure_tidy, install_at_sure, give_sure, codes) depth 30

pub map_page_tidy : (e : Estate) (d : Dom) (a b c : ℕ) → Tidy d (map_page e d a b c)
unfolding map_page
map_page_tidy e d a b c =
    search (filled_tidy, check_tidy, some_tidy, page_refusal_tidy, allowed_tidy, sure_tidy, map_at_sure, give_sure, codes) depth 30

pub unmap_tidy : (e : Estate) (d : Dom) (a : ℕ) → Tidy d (unmap e d a)
unfolding unmap
unmap_tidy e d a = search (filled_tidy, some_tidy, sure_tidy, unmap_at_sure, buffer_sure, give_sure, codes) depth 30

pub copy_tidy : (d : Dom) (a b c : ℕ) → Tidy d (copy d a b c)
unfolding copy
copy_tidy d a b c = search (slot_tidy, check_tidy, some_tidy, unless_tidy, copy_code, sure_tidy, give_sure, codes) depth 30

pub delete_tidy : (e : Estate) (d : Dom) (a : ℕ) → Tidy d (delete e d a)
unfolding delete
delete_tidy e d a = search (filled_tidy, check_tidy, sure_tidy, bind_sure, drop_sure, buffer_sure, give_sure, codes) depth 30

pub revoke_tidy : (e : Estate) (d : Dom) (a : ℕ) → Tidy d (revoke e d a)
unfolding revoke
revoke_tidy e d a = search (filled_tidy, sure_tidy, unmap_all_sure, buffer_sure, give_sure, codes) depth 30

pub call_of_tidy : (e : Estate) (d : Dom) (number a b c : ℕ) → Tidy d (call_of e d number a b c)
unfolding call_of
call_of_tidy e d number a b c =
    if_tidy d (nat_eq number 0) _ _ (sure_tidy d _ (give_sure (exited a d)))
    (if_tidy d (nat_eq number 1) _ _ (put_tidy d a)
    (if_tidy d (nat_eq number 2) _ _ (alloc_tidy e d a b)
    (if_tidy d (nat_eq number 3) _ _ (install_tidy e d a b)
    (if_tidy d (nat_eq number 4) _ _ (map_page_tidy e d a b c)
    (if_tidy d (nat_eq number 5) _ _ (unmap_tidy e d a)
    (if_tidy d (nat_eq number 6) _ _ (copy_tidy d a b c)
    (if_tidy d (nat_eq number 7) _ _ (delete_tidy e d a)
    (if_tidy d (nat_eq number 8) _ _ (revoke_tidy e d a)
    (quiet_tidy d _ (later_quiet d number a b))))))))))

pub refusals : RefusalLaw
unfolding call
refusals e d x m =
    let regs = d.threads.current.regs in
    (call_of_tidy e d (number_made e d) (register regs 10) (register regs 11) (register regs 12)).ends m x

-- a call that may not be made counts as one that is none
pub left_out : LeftOutLaw
unfolding call call_of stop
left_out e d m out =
    let regs = d.threads.current.regs in
    ap (λ (b : Bool). call_of e d (if b then register regs 17 else bad_call_op) (register regs 10)
    (register regs 11) (register regs 12) m) out
