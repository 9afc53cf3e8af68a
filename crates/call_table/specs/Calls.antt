-- The kernel calls, of which a domain may make those that it is allowed. The number is in x17, the arguments a, b and c are in x10, x11 and x12. A call is refused by the
-- first of its errors, in the order of their numbers: 1 BadCall, 2 BadSlot, 3 Empty, 4 Used, 5 WrongKind, 6 BadRights,
-- 7 BadAddress, 8 Mapped, 9 NoTable, 10 NoFrame, 11 OutputFull, 12 InUse, 13 NoThread.
use Rattle.std.specs.Prelude.{ℕ, ◌/◌, ◌%◌, Bool, true, false, not, ◌&&◌, ◌||◌, nat_eq, nat_le, nat_lt, if◌then◌else◌, List, [], ◌∷◌, ◌++◌, length, Option, Some, None, is_some}
use Rattle.std.specs.List.{range_with_len}
use Rattle.std.proofs.Common.{inr}
use Rattle.tp_base.specs.Act as act
use Rattle.tp_base.specs.Act.{◌>>=◌, ◌>>◌, Done, give, stop, check}
use Rattle.tp_base.specs.Rights.{are_good}
use Rattle.phys_mem.specs.Mem.{Mem, zeroed_frame}
use Rattle.rv_core.specs.Registers.{register}
use Rattle.thread_set.specs.Threads.{vacant}
use Rattle.page_map.specs.declared.refusal.MapRefusal.{MapRefusal}
use Rattle.page_map.specs.declared.refusal.MapRefusal.TheVariants as refusal
use Rattle.page_map.specs.Tables.{map_refusal, install_refusal}
use Rattle.page_map.specs.Changes.{table_entry, page_entry, mapped, unmapped, installed, uninstalled}
use Rattle.kernel_clone.specs.Footprints.{WorkDone, bad_call_op}
use Rattle.kernel_clone.specs.Permissions.{is_call, permitted}
use Rattle.cap_table.specs.declared.Cap.{Cap}
use Rattle.cap_table.specs.declared.Cap.TheVariants as cap
use Rattle.cap_table.specs.Slots as slots
use Rattle.cap_table.specs.Slots.{Slots, cap_at, is_filled, with_cap, copied, noted, in_use, revoked, revoked_count}
use Rattle.call_table.specs.declared.Reply.{Reply}
use Rattle.call_table.specs.Domain.{Dom, done, refused, exited, with_caps, is_set, with_bit, signalled, turned, waiting, thread_ended, with_spawned}
use Rattle.call_table.specs.Claims.{Estate, least_free}

-- what a call does beside its own work
pub data Note : Type 0 where
  Zeroed : ℕ → Note  -- a frame
  Entry : ℕ → Note  -- the physical address of a page table entry that was written
  Emptied : Note  -- the translation buffer

-- the frame that was zeroed, if one was, and the entries that were written, in their order
unfoldable pub zeroed_in : List Note → Option ℕ
zeroed_in [] = None
zeroed_in (Note.Zeroed f ∷ ns) = Some f
zeroed_in (_ ∷ ns) = zeroed_in ns

unfoldable pub entries_in : List Note → List ℕ
entries_in [] = []
entries_in (Note.Entry at ∷ ns) = at ∷ entries_in ns
entries_in (_ ∷ ns) = entries_in ns

-- whether they empty the translation buffer
unfoldable pub empties : List Note → Bool
empties [] = false
empties (Note.Emptied ∷ ns) = true
empties (_ ∷ ns) = empties ns

-- the operation of a call's number: its own, or that of a bad call
abbrev pub op_of : ℕ → ℕ
op_of number = if is_call number then number else bad_call_op

-- what its footprint depends on
unfoldable pub work_of : ℕ → List Note → WorkDone
work_of number notes = record { op = op_of number; zeroed = zeroed_in notes; entries = entries_in notes }

-- steps over memory that note their work, and end early with the domain that is refused
abbrev pub Act : Type 0 → Type 0
Act A = act.Act Mem Note Dom A

-- ---- steps over memory

unfoldable pub zero_out : ℕ → Act (Unit {0})
zero_out f = λ m. record { notes = Note.Zeroed f ∷ []; state = zeroed_frame m f; value = inr tt }

-- whether a page could be mapped at an address, and a table installed
unfoldable pub page_refusal : ℕ → ℕ → Act (Option MapRefusal)
page_refusal root va = λ m. record { notes = []; state = m; value = inr (map_refusal m root va) }

unfoldable pub table_refusal : ℕ → ℕ → Act (Option MapRefusal)
table_refusal root va = λ m. record { notes = []; state = m; value = inr (install_refusal m root va) }

unfoldable pub map_at : ℕ → ℕ → ℕ → ℕ → Act (Unit {0})
map_at root va f rights =
    λ m. record {
      notes = Note.Entry (page_entry m root va) ∷ [];
      state = mapped m root va f rights;
      value = inr tt;
    }

unfoldable pub unmap_at : ℕ → ℕ → Act (Unit {0})
unmap_at root va =
    λ m. record { notes = Note.Entry (page_entry m root va) ∷ []; state = unmapped m root va; value = inr tt }

unfoldable pub install_at : ℕ → ℕ → ℕ → Act (Unit {0})
install_at root va f =
    λ m.
    record { notes = Note.Entry (table_entry root va) ∷ []; state = installed m root va f; value = inr tt }

unfoldable pub uninstall_at : ℕ → ℕ → Act (Unit {0})
uninstall_at root va =
    λ m.
    record { notes = Note.Entry (table_entry root va) ∷ []; state = uninstalled m root va; value = inr tt }

unfoldable pub empty_buffer : Act (Unit {0})
empty_buffer = λ m. record { notes = Note.Emptied ∷ []; state = m; value = inr tt }

-- ---- tests

unfoldable pub some_or : {A : Type 0} → Dom → Option A → Act A
some_or d None = stop d
some_or d (Some a) = give a

-- a slot's number
unfoldable pub is_slot : Dom → ℕ → Act (Unit {0})
is_slot d a = check (refused 2 d) (nat_lt a 64)

-- the capability in a slot
unfoldable pub filled : Dom → ℕ → Act Cap
filled d a = do
  is_slot d a
  some_or (refused 3 d) (cap_at d.caps a)

-- a capability of a page
pub record Page : Type 0 where
  pub frame : ℕ
  pub rights : ℕ
  pub mapped : Option ℕ

abbrev pub page_in : Cap → Option Page
page_in (cap.Frame f rights mapped) = Some (record { frame = f; rights = rights; mapped = mapped })
page_in _ = None

-- a capability of a table
pub record Directory : Type 0 where
  pub frame : ℕ
  pub installed : Option ℕ

abbrev pub table_in : Cap → Option Directory
table_in (cap.Table f installed) = Some (record { frame = f; installed = installed })
table_in _ = None

-- no right that the other lacks; rights are a number: 1 read, 2 write, 4 execute
abbrev pub is_within : ℕ → ℕ → Bool
is_within c r = nat_le (c % 2) (r % 2) && (nat_le (c / 2 % 2) (r / 2 % 2) && nat_le (c / 4 % 2) (r / 4 % 2))

-- rights that a capability of such rights may give
abbrev pub may_give : ℕ → ℕ → Bool
may_give r c = are_good c && is_within c r

-- why page tables refuse an address
abbrev pub error_of : MapRefusal → ℕ
error_of refusal.BadAddress = 7
error_of refusal.Mapped = 8
error_of refusal.NoTable = 9

unfoldable pub allowed : Dom → Option MapRefusal → Act (Unit {0})
allowed d None = give tt
allowed d (Some r) = stop (refused (error_of r) d)

-- ---- 0 EXIT a, 1 PUT a

unfoldable pub put_byte : Dom → ℕ → Act Dom
put_byte d a = do
  check (refused 11 d) (nat_lt (length d.printed) 4096)
  give (done 0 (record d { printed = d.printed ++ a % 256 ∷ [] }))

-- ---- 2 ALLOC a b: the least free frame, as a page (0) or as a table (1)

abbrev pub fresh_cap : ℕ → ℕ → Cap
fresh_cap b f = if nat_eq b 0 then cap.Frame f 7 None else cap.Table f None

-- slot a is this, and the call is done
abbrev pub with_slot : Dom → ℕ → Option Cap → Dom
with_slot d a c = with_caps (with_cap d.caps a c) d

unfoldable pub alloc : Estate → Dom → ℕ → ℕ → Act Dom
alloc e d a b = do
  is_slot d a
  check (refused 4 d) (not (is_filled (cap_at d.caps a)))
  check (refused 5 d) (nat_le b 1)
  f ← some_or (refused 10 d) (least_free e d.caps)
  zero_out f
  give (done 0 (with_slot d a (Some (fresh_cap b f))))

-- ---- 3 TABLE a b: installs a table at an address

unfoldable pub install : Estate → Dom → ℕ → ℕ → Act Dom
install e d a b = do
  c ← filled d a
  x ← some_or (refused 5 d) (table_in c)
  check (refused 7 d) (nat_eq (b % 4194304) 0)
  check (refused 8 d) (not (is_some x.installed))
  refusal ← table_refusal e.root b
  allowed d refusal
  install_at e.root b x.frame
  give (done 0 (with_slot d a (noted (Some c) (Some b))))

-- ---- 4 MAP a b c: maps a page at an address, with rights

unfoldable pub map_page : Estate → Dom → ℕ → ℕ → ℕ → Act Dom
map_page e d a b c = do
  x ← filled d a
  page ← some_or (refused 5 d) (page_in x)
  check (refused 6 d) (may_give page.rights c)
  check (refused 7 d) (nat_eq (b % 4096) 0)
  check (refused 8 d) (not (is_some page.mapped))
  refusal ← page_refusal e.root b
  allowed d refusal
  map_at e.root b page.frame c
  give (done 0 (with_slot d a (noted (Some x) (Some b))))

-- ---- 5 UNMAP a: clears a page's leaf

unfoldable pub unmap : Estate → Dom → ℕ → Act Dom
unmap e d a = do
  c ← filled d a
  page ← some_or (refused 5 d) (page_in c)
  va ← some_or (refused 7 d) page.mapped
  unmap_at e.root va
  empty_buffer
  give (done 0 (with_slot d a (noted (Some c) None)))

-- ---- 6 COPY a b c: slot b names the same page with rights c, not mapped, or the same line

-- whether a capability may be copied with such rights: 5 where it is a table, 6 where they are too wide
abbrev pub copy_refusal : Cap → ℕ → Option ℕ
copy_refusal (cap.Frame f rights mapped) c = if may_give rights c then None else Some 6
copy_refusal (cap.Table f installed) c = Some 5
copy_refusal (cap.Irq line) c = None

unfoldable pub unless_refused : Dom → Option ℕ → Act (Unit {0})
unless_refused d None = give tt
unless_refused d (Some code) = stop (refused code d)

unfoldable pub copy : Dom → ℕ → ℕ → ℕ → Act Dom
copy d a b c = do
  is_slot d a
  is_slot d b
  x ← some_or (refused 3 d) (cap_at d.caps a)
  check (refused 4 d) (not (is_filled (cap_at d.caps b)))
  unless_refused d (copy_refusal x c)
  give (done 0 (with_slot d b (copied (Some x) c)))

-- ---- 7 DELETE a: its leaf or root entry is cleared, and the slot is empty. A frame that no slot names then is free.

unfoldable pub clear_entry : ℕ → Option Cap → Act (Unit {0})
clear_entry root (Some (cap.Frame f rights (Some va))) = unmap_at root va
clear_entry root (Some (cap.Table f (Some va))) = uninstall_at root va
clear_entry root _ = give tt

-- ends the capability in a slot
unfoldable pub drop_slot : Estate → ℕ → Dom → Act Dom
drop_slot e i d = do
  clear_entry e.root (cap_at d.caps i)
  give (with_slot d i None)

unfoldable pub delete : Estate → Dom → ℕ → Act Dom
delete e d a = do
  c ← filled d a
  check (refused 12 d) (not (in_use d.caps a))
  x ← drop_slot e a d
  empty_buffer
  give (done 0 x)

-- ---- 8 REVOKE a: empties every other slot that names the same page or line, clears their leaves, and gives their number

-- where the slots that are emptied are mapped, in order
abbrev pub emptied_at : Slots → ℕ → List ℕ
emptied_at caps a = slots.entries_in caps a (range_with_len 0 64)

-- clears the leaves at these addresses, one after another
unfoldable pub unmap_all : ℕ → List ℕ → Act (Unit {0})
unmap_all root [] = give tt
unmap_all root (va ∷ vas) = do
  unmap_at root va
  unmap_all root vas

unfoldable pub revoke : Estate → Dom → ℕ → Act Dom
revoke e d a = do
  c ← filled d a
  unmap_all e.root (emptied_at d.caps a)
  empty_buffer
  give (done (revoked_count d.caps a) (with_caps (revoked d.caps a) d))

-- ---- 9 POLL a, 10 WAIT a, 11 SIGNAL a: on the line that a slot names

abbrev pub line_in : Cap → Option ℕ
line_in (cap.Irq line) = Some line
line_in _ = None

unfoldable pub line_at : Dom → ℕ → Act ℕ
line_at d a = do
  c ← filled d a
  some_or (refused 5 d) (line_in c)

abbrev pub bit_value : Bool → ℕ
bit_value true = 1
bit_value false = 0

-- whether the line's bit is set, which is cleared
unfoldable pub poll : Dom → ℕ → Act Dom
poll d a = do
  line ← line_at d a
  give (done (bit_value (is_set d line)) (with_bit line false d))

-- as POLL where the bit is set, else the thread waits, and has its reply when it is woken
unfoldable pub waited : Bool → ℕ → Dom → Dom
waited true line d = done 1 (with_bit line false d)
waited false line d = waiting line d

unfoldable pub wait : Dom → ℕ → Act Dom
wait d a = do
  line ← line_at d a
  give (waited (is_set d line) line d)

-- as a delivery of the line: a woken thread's reply is recorded before the caller's
unfoldable pub signal : Dom → ℕ → Act Dom
signal d a = do
  line ← line_at d a
  give (done 0 (signalled line d))

-- ---- 12 SPAWN a b: a thread at a, with b in x10

unfoldable pub spawn : Dom → ℕ → ℕ → Act Dom
spawn d a b = do
  check (refused 7 d) (nat_eq (a % 4) 0)
  t ← some_or (refused 13 d) (vacant d.threads)
  give (done t (with_spawned a b d))

-- ---- all of them, with 13 YIELD and 14 ENDTHREAD

-- any other number is a bad call
unfoldable pub call_of : Estate → Dom → ℕ → ℕ → ℕ → ℕ → Act Dom
call_of e d number a b c =
    if nat_eq number 0 then give (exited a d)
    else if nat_eq number 1 then put_byte d a
    else if nat_eq number 2 then alloc e d a b
    else if nat_eq number 3 then install e d a b
    else if nat_eq number 4 then map_page e d a b c
    else if nat_eq number 5 then unmap e d a
    else if nat_eq number 6 then copy d a b c
    else if nat_eq number 7 then delete e d a
    else if nat_eq number 8 then revoke e d a
    else if nat_eq number 9 then poll d a
    else if nat_eq number 10 then wait d a
    else if nat_eq number 11 then signal d a
    else if nat_eq number 12 then spawn d a b
    else if nat_eq number 13 then give (turned (done 0 d))
    else if nat_eq number 14 then give (thread_ended d)
    else stop (refused 1 d)

-- the number of the call that the current thread makes; one that the domain may not make counts as none
abbrev pub number_made : Estate → Dom → ℕ
number_made e d = permitted e.calls (register d.threads.current.regs 17)

unfoldable pub call : Estate → Dom → Act Dom
call e d =
    let regs = d.threads.current.regs in
    call_of e d (number_made e d) (register regs 10) (register regs 11) (register regs 12)

-- ---- which calls empty the translation buffer, by their number and their reply

-- UNMAP, DELETE and REVOKE: those that clear entries
abbrev pub clears_entries : ℕ → Bool
clears_entries number = nat_eq number 5 || (nat_eq number 7 || nat_eq number 8)

-- the call was done and answers so
abbrev pub is_done : Option Reply → Bool
is_done None = false
is_done (Some reply) = nat_eq reply.code 0

abbrev pub empties_buffer : ℕ → Option Reply → Bool
empties_buffer number reply = clears_entries number && is_done reply
