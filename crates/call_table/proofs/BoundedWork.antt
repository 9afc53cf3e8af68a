-- What each call notes: which calls empty the translation buffer, how much one call writes, and where.
use Rattle.std.proofs.Common.{◌≡◌, ◌∙◌, ap, sym, subst, refl, ◌⊎◌, ℕ, ◌<◌, ◌≤◌, Bool, true, false, arith, eqb-true, ◌/◌, List, [], ◌∷◌, length, Some, None}
use Rattle.std.proofs.lemmas.List.Elements.{All-nil, All-cons, All-head, All-tail}
use Rattle.std.specs.List.{All, range_with_len}
use Rattle.std.specs.Prelude.{nat_eq, if◌then◌else◌}
use Rattle.tp_base.specs.Act.{either}
use Rattle.phys_mem.specs.Mem.{Mem}
use Rattle.rv_core.specs.Registers.{register}
use Rattle.kernel_clone.specs.Footprints.{is_of_switch, leave_op, enter_op, bad_call_op}
use Rattle.kernel_clone.specs.Permissions.{is_call, may_make, permitted}
use Rattle.kernel_clone.proofs.CallLaws.{differ}
use Rattle.pad_bound.specs.Bound.{most_entries}
use Rattle.pad_bound.specs.Worst.{IsCallWork, most_entries_of}
use Rattle.cap_table.specs.declared.Cap.{Cap}
use Rattle.cap_table.specs.declared.Cap.TheVariants as cap
use Rattle.cap_table.specs.Slots.{revoked, revoked_count}
use Rattle.cap_table.proofs.RevokeLemmas.{entries_few, count_below}
use Rattle.call_table.specs.Domain.{Dom, reply_past, exited, with_caps}
use Rattle.call_table.specs.Claims.{Estate}
use Rattle.call_table.specs.Calls.{Act, Note, zeroed_in, entries_in, op_of, work_of, empties, empties_buffer, put_byte, alloc, install, map_page, unmap, may_give, copy_refusal, copy, drop_slot, delete, emptied_at, revoke, call_of, call, number_made}
use Rattle.call_table.specs.Laws.{Kept, IsMine, IsOwnWork, EmptiesLaw, OperationLaw, WorkLaw, PermittedLaw}
use Rattle.call_table.proofs.QuietCalls.{poll_quiet, wait_quiet, signal_quiet, spawn_quiet, yield_quiet, end_quiet}
use Rattle.call_table.proofs.ConfinedCalls.{ready, any_call}
use Rattle.call_table.proofs.WorkSteps.{Works, IsWork, drop_slot_drops, stop_works, check_works, some_works, filled_works, slot_works, page_refusal_works, table_refusal_works, allowed_works, unless_works, quiet_works, give_works, zero_works, map_at_works, install_at_works, unmap_at_works, unmap_all_works, drops_works}

-- ---- each call

copy_code : (x : Cap) (c code : ℕ) → copy_refusal x c ≡ Some code → nat_eq code 0 ≡ false
copy_code (cap.Frame f rights w) c code e = by_test (may_give rights c) e
  where
    by_test : (b : Bool) → (if b then None else Some 6) ≡ Some code → nat_eq code 0 ≡ false
    by_test true e = absurd (cc e)
    by_test false e = let same : 6 ≡ code = cc e in subst (λ (n : ℕ). nat_eq n 0 ≡ false) same refl
copy_code (cap.Table f w) c code e = let same : 5 ≡ code = cc e in subst (λ (n : ℕ). nat_eq n 0 ≡ false) same refl
copy_code (cap.Irq line) c code e = absurd (cc e)

put_works : (d : Dom) (a : ℕ) → Works d 1 (put_byte d a)
unfolding put_byte
put_works d a = search (check_works, give_works) depth 30

alloc_works : (e : Estate) (d : Dom) (a b : ℕ) → Works d 2 (alloc e d a b)
unfolding alloc
alloc_works e d a b = search (slot_works, check_works, some_works, zero_works) depth 30

install_works : (e : Estate) (d : Dom) (a b : ℕ) → Works d 3 (install e d a b)
unfolding install
install_works e d a b =
    search (filled_works, check_works, some_works, table_refusal_works, allowed_works, install_at_works) depth 30

map_page_works : (e : Estate) (d : Dom) (a b c : ℕ) → Works d 4 (map_page e d a b c)
unfolding map_page
map_page_works e d a b c =
    search (filled_works, check_works, some_works, page_refusal_works, allowed_works, map_at_works) depth 30

unmap_works : (e : Estate) (d : Dom) (a : ℕ) → Works d 5 (unmap e d a)
unfolding unmap
unmap_works e d a = search (filled_works, some_works, unmap_at_works) depth 30

copy_works : (d : Dom) (a b c : ℕ) → Works d 6 (copy d a b c)
unfolding copy
copy_works d a b c = search (slot_works, check_works, some_works, unless_works, copy_code, give_works) depth 30

delete_works : (e : Estate) (d : Dom) (a : ℕ) → Works d 7 (delete e d a)
unfolding delete
delete_works e d a =
    filled_works d 7 a _ (λ c _. check_works d 7 12 _ _ refl (drops_works d 7 refl (drop_slot e a d) 0 (drop_slot_drops e a d)))

-- 63 of 64 slots at most are others
few_emptied : (d : Dom) (a : ℕ) → a < 64 → length (emptied_at d.caps a) ≤ most_entries
few_emptied d a below = omega (arith, entries_few d.caps a (range_with_len 0 64), count_below d.caps a below)

revoke_works : (e : Estate) (d : Dom) (a : ℕ) → Works d 8 (revoke e d a)
unfolding revoke with_caps
revoke_works e d a =
    filled_works d 8 a _ (λ c below.
    unmap_all_works d 8 refl e.root (emptied_at d.caps a) (with_caps (revoked d.caps a) d)
    (revoked_count d.caps a) (few_emptied d a below) refl)

-- ---- a call by its number

by_number : (d : Dom) (number k : ℕ) (x y : Act Dom) → Works d k x → Works d number y
    → Works d number (if nat_eq number k then x else y)
by_number d number k x y h g = by_test (nat_eq number k) refl
  where
    by_test : (b : Bool) → nat_eq number k ≡ b → Works d number (if b then x else y)
    by_test true is = subst (λ (n : ℕ). Works d n x) (sym (eqb-true number k is)) h
    by_test false is = g

pub call_of_works : (e : Estate) (d : Dom) (number a b c : ℕ) → Works d number (call_of e d number a b c)
unfolding call_of
call_of_works e d number a b c =
    by_number d number 0 _ _ (give_works d 0 refl (exited a d))
    (by_number d number 1 _ _ (put_works d a)
    (by_number d number 2 _ _ (alloc_works e d a b)
    (by_number d number 3 _ _ (install_works e d a b)
    (by_number d number 4 _ _ (map_page_works e d a b c)
    (by_number d number 5 _ _ (unmap_works e d a)
    (by_number d number 6 _ _ (copy_works d a b c)
    (by_number d number 7 _ _ (delete_works e d a)
    (by_number d number 8 _ _ (revoke_works e d a)
    (by_number d number 9 _ _ (quiet_works d 9 refl _ (poll_quiet d a))
    (by_number d number 10 _ _ (quiet_works d 10 refl _ (wait_quiet d a))
    (by_number d number 11 _ _ (quiet_works d 11 refl _ (signal_quiet d a))
    (by_number d number 12 _ _ (quiet_works d 12 refl _ (spawn_quiet d a b))
    (by_number d number 13 _ _ (quiet_works d 13 refl _ (yield_quiet d))
    (by_number d number 14 _ _ (quiet_works d 14 refl _ (end_quiet d))
    (stop_works d number 1 refl)))))))))))))))

-- a call's operation is of no switch
pub is_call_op : (number : ℕ) → is_of_switch (op_of number) ≡ false
is_call_op number = by_test (is_call number) refl
  where
    by_test : (b : Bool) → is_call number ≡ b → is_of_switch (if b then number else bad_call_op) ≡ false
    by_test true is = rw (differ number leave_op true is refl, differ number enter_op true is refl) refl
    by_test false none = refl

-- a number of no call writes nothing
no_entries : (number : ℕ) → is_call number ≡ false → most_entries_of number ≡ 0
no_entries number none =
    rw (
      differ number 8 false none refl,
      differ number 3 false none refl,
      differ number 4 false none refl,
      differ number 5 false none refl,
      differ number 7 false none refl,
    ) refl

call_work : (d : Dom) (number : ℕ) (v : Dom ⊎ Dom) (ns : List Note) → IsWork d number v ns
    → IsCallWork (work_of number ns)
unfolding work_of
call_work d number v ns w = by_test (is_call number) refl
  where
    by_test : (b : Bool) → is_call number ≡ b → IsCallWork (work_of number ns)
    by_test true is =
        let own : op_of number ≡ number = ap (λ (t : Bool). if t then number else bad_call_op) is in
        record {
          call = is_call_op number;
          zeroes = λ frame is. own ∙ w.zeroes frame is;
          few = subst (λ (op : ℕ). length (entries_in ns) ≤ most_entries_of op) (sym own) w.few;
        }
    by_test false none =
        let no = no_entries number none in
        record {
          call = is_call_op number;
          zeroes = λ frame is. let same = sym none ∙ ap is_call (w.zeroes frame is) in absurd (cc same);
          few = let few = w.few in omega (arith, few, no);
        }

-- a call that does nothing beside its own work
pub idle_work : (number : ℕ) → IsCallWork (work_of number [])
unfolding work_of zeroed_in entries_in
idle_work number = record { call = is_call_op number; zeroes = λ frame is. absurd (cc is); few = omega arith }

pub call_of_bounded : (e : Estate) (d : Dom) (m : Mem) (number a b c : ℕ)
    → IsCallWork (work_of number (call_of e d number a b c m).notes)
call_of_bounded e d m number a b c =
    call_work d number (call_of e d number a b c m).value (call_of e d number a b c m).notes ((call_of_works e d number a b c).each m)

pub call_of_empties : (e : Estate) (d : Dom) (m : Mem) (number a b c : ℕ)
    → empties (call_of e d number a b c m).notes
    ≡ empties_buffer number (reply_past (length d.replies) (either (call_of e d number a b c m).value))
call_of_empties e d m number a b c =
    let w : IsWork d number (call_of e d number a b c m).value (call_of e d number a b c m).notes =
    (call_of_works e d number a b c).each m in
    w.buffer ∙ w.reply

pub calls_empty : EmptiesLaw
unfolding call
calls_empty e d m =
    let regs = d.threads.current.regs in
    call_of_empties e d m (number_made e d) (register regs 10) (register regs 11) (register regs 12)

pub operations : OperationLaw
unfolding work_of
operations e d m = refl

pub calls_bounded : WorkLaw
unfolding call
calls_bounded e d m =
    let regs = d.threads.current.regs in
    call_of_bounded e d m (number_made e d) (register regs 10) (register regs 11) (register regs 12)

-- an operation of a call's number is that of a call which the domain may make
pub made_permitted : (calls number : ℕ) → is_call (op_of (permitted calls number)) ≡ true
    → may_make calls (op_of (permitted calls number)) ≡ true
made_permitted calls number = by_test (may_make calls number) refl
  where
    by_test : (b : Bool) → may_make calls number ≡ b → let n = if b then number else bad_call_op in
        is_call (op_of n) ≡ true → may_make calls (op_of n) ≡ true
    by_test true may is = by_number (is_call number) is
      where
        by_number : (b : Bool) → is_call (if b then number else bad_call_op) ≡ true
            → may_make calls (if b then number else bad_call_op) ≡ true
        by_number true is = may
        by_number false is = absurd (cc is)
    by_test false may is = absurd (cc is)

pub calls_permitted : PermittedLaw
unfolding work_of
calls_permitted e d m = made_permitted e.calls (register d.threads.current.regs 17)

-- ---- where the work lies

-- the frame that is zeroed and the entries that are written are the domain's own
pub record LiesInOwn (e : Estate) (ns : List Note) : Type 0 where
  pub zeroed : (f : ℕ) → zeroed_in ns ≡ Some f → IsMine e f
  pub entries : All (λ at. IsMine e (at / 4096)) (entries_in ns)

own_work : (e : Estate) (ns : List Note) → All (IsOwnWork e) ns → LiesInOwn e ns
unfolding zeroed_in entries_in
own_work e [] all = record { zeroed = λ f is. absurd (cc is); entries = All-nil (λ at. IsMine e (at / 4096)) }
own_work e (Note.Zeroed g ∷ ns) all =
    let later = own_work e ns (All-tail (IsOwnWork e) (Note.Zeroed g) ns all) in
    record { zeroed = λ f is. subst (IsMine e) (cc is) (All-head (IsOwnWork e) (Note.Zeroed g) ns all); entries = later.entries }
own_work e (Note.Entry at ∷ ns) all =
    let later = own_work e ns (All-tail (IsOwnWork e) (Note.Entry at) ns all) in
    record {
      zeroed = later.zeroed;
      entries = All-cons (λ at. IsMine e (at / 4096)) at (entries_in ns) (All-head (IsOwnWork e) (Note.Entry at) ns all) later.entries;
    }
own_work e (Note.Emptied ∷ ns) all =
    let later = own_work e ns (All-tail (IsOwnWork e) Note.Emptied ns all) in
    record { zeroed = later.zeroed; entries = later.entries }

pub call_of_own : (e : Estate) (d : Dom) (m : Mem) (number a b c : ℕ) → Kept e d m
    → LiesInOwn e (call_of e d number a b c m).notes
call_of_own e d m number a b c h =
    own_work e _ (any_call e m d m m (record { same = λ f own. refl; outside = λ f out. refl }) (ready e d m h) number a b c).work
