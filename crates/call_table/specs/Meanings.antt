-- What each call means for the program, in its author's words: of the call that the current thread makes, by its number.
use Rattle.std.specs.Prelude.{◌≡◌, ◌≢◌, ℕ, ◌+◌, ◌<◌, ◌≤◌, ◌%◌, ◌^◌, nat_le, nat_eq, Bool, true, false, not, ◌&&◌, [], ◌∷◌, ◌++◌, length, Some, None}
use Rattle.std.proofs.Common.{inr}
use Rattle.phys_mem.specs.Mem.{Mem}
use Rattle.rv_core.specs.Registers.{register, with_register}
use Rattle.thread_set.specs.declared.Thread.{Thread}
use Rattle.thread_set.specs.declared.ThreadState.TheVariants.{Waiting, Ended}
use Rattle.thread_set.specs.Threads.{AreThreads, current_number, thread_at, is_ready, is_live, in_state, between}
use Rattle.sv32_walk.specs.PageTableEntry.{vpn_1, table_word}
use Rattle.sv32_walk.specs.Translation.{first_entry}
use Rattle.page_map.specs.Tables.{map_refusal}
use Rattle.page_map.specs.Walks.{FaultsIn, SameElsewhere}
use Rattle.cap_table.specs.declared.Cap.TheVariants as cap
use Rattle.cap_table.specs.Slots.{Slots, cap_at, table_of}
use Rattle.call_table.specs.declared.DomainStatus.TheVariants.{Exited}
use Rattle.call_table.specs.Domain.{Dom, refused, is_set, delivered_on}
use Rattle.call_table.specs.Claims.{Estate}
use Rattle.call_table.specs.Calls.{call, number_made}
use Rattle.call_table.specs.Laws.{Kept}
use Rattle.call_table.specs.ThreadLaws.{MayRun, after_call}

-- ---- a call and its reply

-- the call that the current thread makes has this number, and the domain may make it
abbrev pub Makes : Estate → Dom → ℕ → Type 0
Makes e d number = number_made e d ≡ number

-- its arguments
abbrev pub argument_a : Dom → ℕ
argument_a d = register d.threads.current.regs 10

abbrev pub argument_b : Dom → ℕ
argument_b d = register d.threads.current.regs 11

abbrev pub argument_c : Dom → ℕ
argument_c d = register d.threads.current.regs 12

-- the number of the thread that makes it
abbrev pub caller : Dom → ℕ
caller d = current_number d.threads

-- memory after it
abbrev pub memory_after : Estate → Dom → Mem → Mem
memory_after e d m = (call e d m).state

-- a thread past its call, with a reply in x10 and x11
abbrev pub answered : ℕ → ℕ → Thread → Thread
answered code value x =
    record x { pc = (x.pc + 4) % 2 ^ 32; regs = with_register (with_register x.regs 10 code) 11 value }

-- the call was done: of the threads the caller alone goes on, with this value, and its reply is recorded
pub record IsDone (value : ℕ) (d x : Dom) : Type 0 where
  pub threads : x.threads ≡ record d.threads { current = answered 0 value d.threads.current }
  pub reply : x.replies ≡ d.replies ++ record { code = 0; value = value } ∷ []

-- every other thread is as it was
abbrev pub OthersStay : Dom → Dom → Type 0
OthersStay d x = (t : ℕ) → t ≢ caller d → thread_at x.threads t ≡ thread_at d.threads t

-- ALLOC, TABLE, MAP, UNMAP, DELETE and REVOKE
abbrev pub touches_memory : ℕ → Bool
touches_memory number = nat_le 2 number && (nat_le number 8 && not (nat_eq number 6))

-- every other call leaves memory as it was, and does no work
pub record LeavesMemory (e : Estate) (d : Dom) (m : Mem) : Type 0 where
  pub memory : memory_after e d m ≡ m
  pub no_work : (call e d m).notes ≡ []

abbrev pub MemoryLaw : Type 0
MemoryLaw = (e : Estate) (d : Dom) (m : Mem) → touches_memory (number_made e d) ≡ false → LeavesMemory e d m

-- ---- a caller that is no longer ready

-- its turn passes to the next ready thread in cyclic order, and stays where none is ready
pub record PassesTurn (d x : Dom) : Type 0 where
  pub ready : (t : ℕ) → t < 8 → is_ready (thread_at x.threads t).state ≡ true
      → is_ready x.threads.current.state ≡ true
  pub soonest : (t : ℕ) → t < 8 → is_ready (thread_at x.threads t).state ≡ true
      → between (caller d) (current_number x.threads) ≤ between (caller d) t
  pub none : ((t : ℕ) → t < 8 → is_ready (thread_at x.threads t).state ≡ false)
      → current_number x.threads ≡ caller d

-- ---- EXIT and ENDTHREAD: no reply, and the caller stays at its call

-- the domain has exited so, its live threads are ended, and those that were not live are as they were
pub record IsExited (code : ℕ) (d x : Dom) : Type 0 where
  pub status : x.status ≡ Exited code
  pub ended : (t : ℕ) → t < 8 → is_live (thread_at d.threads t).state ≡ true
      → thread_at x.threads t ≡ in_state Ended (thread_at d.threads t)
  pub not_live : (t : ℕ) → t < 8 → is_live (thread_at d.threads t).state ≡ false
      → thread_at x.threads t ≡ thread_at d.threads t
  pub rest : x ≡ record d { status = x.status; threads = x.threads }

abbrev pub ExitLaw : Type 0
ExitLaw = (e : Estate) (d : Dom) (m : Mem) → AreThreads d.threads → Makes e d 0
    → IsExited (argument_a d) d (after_call e d m)

-- no other thread is live
abbrev pub IsLastLive : Dom → Type 0
IsLastLive d = (t : ℕ) → t < 8 → t ≢ caller d → is_live (thread_at d.threads t).state ≡ false

-- the caller is ended, and its turn passes on; with the last live one the domain has exited, with 0 whatever its registers hold
pub record IsThreadEnded (d x : Dom) : Type 0 where
  pub ended : thread_at x.threads (caller d) ≡ in_state Ended d.threads.current
  pub others : OthersStay d x
  pub last : IsLastLive d → x.status ≡ Exited 0
  pub not_last : (t : ℕ) → t < 8 → t ≢ caller d → is_live (thread_at d.threads t).state ≡ true
      → x.status ≡ d.status
  pub turn : PassesTurn d x
  pub rest : x ≡ record d { status = x.status; threads = x.threads }

abbrev pub EndThreadLaw : Type 0
EndThreadLaw = (e : Estate) (d : Dom) (m : Mem) → AreThreads d.threads → Makes e d 14
    → IsThreadEnded d (after_call e d m)

-- ---- PUT

-- the last byte printed is this one, after all that were
pub record IsPrinted (byte : ℕ) (d x : Dom) : Type 0 where
  pub done : IsDone 0 d x
  pub last : x.printed ≡ d.printed ++ byte ∷ []
  pub rest : x ≡ record d { threads = x.threads; replies = x.replies; printed = x.printed }

-- of a low byte, where fewer than 4,096 are printed
abbrev pub PutLaw : Type 0
PutLaw = (e : Estate) (d : Dom) (m : Mem) → Makes e d 1 → length d.printed < 4096
    → IsPrinted (argument_a d % 256) d (after_call e d m)

-- else OutputFull
abbrev pub OutputFullLaw : Type 0
OutputFullLaw = (e : Estate) (d : Dom) (m : Mem) → Makes e d 1 → 4096 ≤ length d.printed
    → after_call e d m ≡ refused 11 d

-- ---- POLL, WAIT and SIGNAL of a line

-- the slot of the first argument names the line
pub record Names (d : Dom) (line : ℕ) : Type 0 where
  pub slot : argument_a d < 64
  pub line_there : cap_at d.caps (argument_a d) ≡ Some (cap.Irq line)

-- the line's bit is clear, with its old value as the reply, and other bits stay
pub record IsPolled (value line : ℕ) (d x : Dom) : Type 0 where
  pub done : IsDone value d x
  pub clear : is_set x line ≡ false
  pub others : (other : ℕ) → other ≢ line → is_set x other ≡ is_set d other
  pub rest : x ≡ record d { threads = x.threads; replies = x.replies; bits = x.bits }

-- the caller waits for the line, past its call, with no reply yet, and no bit changes
pub record IsWaiting (line : ℕ) (d x : Dom) : Type 0 where
  pub waits : thread_at x.threads (caller d)
      ≡ record d.threads.current { state = Waiting line; pc = (d.threads.current.pc + 4) % 2 ^ 32 }
  pub others : OthersStay d x
  pub turn : PassesTurn d x
  pub rest : x ≡ record d { threads = x.threads }

abbrev pub PollSetLaw : Type 0
PollSetLaw = (e : Estate) (d : Dom) (m : Mem) (line : ℕ) → Makes e d 9 → Names d line → is_set d line ≡ true
    → IsPolled 1 line d (after_call e d m)

abbrev pub PollClearLaw : Type 0
PollClearLaw =
    (e : Estate) (d : Dom) (m : Mem) (line : ℕ) → Makes e d 9 → Names d line → is_set d line ≡ false
    → IsPolled 0 line d (after_call e d m)

abbrev pub WaitSetLaw : Type 0
WaitSetLaw = (e : Estate) (d : Dom) (m : Mem) (line : ℕ) → Makes e d 10 → Names d line → is_set d line ≡ true
    → IsPolled 1 line d (after_call e d m)

abbrev pub WaitClearLaw : Type 0
WaitClearLaw =
    (e : Estate) (d : Dom) (m : Mem) (line : ℕ) → AreThreads d.threads → Makes e d 10 → Names d line
    → is_set d line ≡ false → IsWaiting line d (after_call e d m)

-- all that a delivery of the line does to threads and bits, but that no moment is counted; and the caller goes on
pub record IsSignalled (line : ℕ) (d x : Dom) : Type 0 where
  pub done : IsDone 0 (delivered_on line d) x
  pub bits : x.bits ≡ (delivered_on line d).bits
  pub turn : current_number x.threads ≡ caller d
  pub rest : x ≡ record d { threads = x.threads; replies = x.replies; bits = x.bits }

abbrev pub SignalLaw : Type 0
SignalLaw = (e : Estate) (d : Dom) (m : Mem) (line : ℕ) → AreThreads d.threads → MayRun d → Makes e d 11
    → Names d line
    → IsSignalled line d (after_call e d m)

-- ---- SPAWN

-- the least-numbered thread that is not live
pub record IsVacant (d : Dom) (t : ℕ) : Type 0 where
  pub below : t < 8
  pub not_live : is_live (thread_at d.threads t).state ≡ false
  pub least : (s : ℕ) → s < t → is_live (thread_at d.threads s).state ≡ true

-- a thread that has done nothing yet: x10 is its argument, and every other register 0
pub record IsStarted (entry argument : ℕ) (x : Thread) : Type 0 where
  pub ready : is_ready x.state ≡ true
  pub pc : x.pc ≡ entry
  pub x10 : register x.regs 10 ≡ argument
  pub zero : (r : ℕ) → r < 32 → r ≢ 10 → register x.regs r ≡ 0

-- thread t has started, and the caller goes on with its number
pub record IsSpawned (t : ℕ) (d x : Dom) : Type 0 where
  pub started : IsStarted (argument_a d) (argument_b d) (thread_at x.threads t)
  pub caller_goes_on : thread_at x.threads (caller d) ≡ answered 0 t d.threads.current
  pub turn : current_number x.threads ≡ caller d
  pub others : (s : ℕ) → s ≢ t → s ≢ caller d → thread_at x.threads s ≡ thread_at d.threads s
  pub reply : x.replies ≡ d.replies ++ record { code = 0; value = t } ∷ []
  pub rest : x ≡ record d { threads = x.threads; replies = x.replies }

abbrev pub SpawnLaw : Type 0
SpawnLaw = (e : Estate) (d : Dom) (m : Mem) (t : ℕ) → AreThreads d.threads → MayRun d → Makes e d 12
    → argument_a d % 4 ≡ 0 → IsVacant d t → IsSpawned t d (after_call e d m)

-- NoThread, where all eight are live
abbrev pub NoThreadLaw : Type 0
NoThreadLaw = (e : Estate) (d : Dom) (m : Mem) → AreThreads d.threads → Makes e d 12 → argument_a d % 4 ≡ 0
    → ((t : ℕ) → t < 8 → is_live (thread_at d.threads t).state ≡ true)
    → after_call e d m ≡ refused 13 d

-- ---- YIELD

-- the caller goes on, and no ready thread comes sooner after it, in cyclic order, than the one that is current
pub record IsYielded (d x : Dom) : Type 0 where
  pub caller_goes_on : thread_at x.threads (caller d) ≡ answered 0 0 d.threads.current
  pub others : OthersStay d x
  pub ready : is_ready x.threads.current.state ≡ true
  pub soonest : (t : ℕ) → t < 8 → is_ready (thread_at d.threads t).state ≡ true
      → between (caller d) (current_number x.threads) ≤ between (caller d) t
  pub reply : x.replies ≡ d.replies ++ record { code = 0; value = 0 } ∷ []
  pub rest : x ≡ record d { threads = x.threads; replies = x.replies }

abbrev pub YieldLaw : Type 0
YieldLaw = (e : Estate) (d : Dom) (m : Mem) → AreThreads d.threads → MayRun d → Makes e d 13
    → IsYielded d (after_call e d m)

-- ---- TABLE and UNMAP

-- every other slot is as it was
abbrev pub SlotsStay : ℕ → Slots → Slots → Type 0
SlotsStay a old new = (i : ℕ) → i ≢ a → cap_at new i ≡ cap_at old i

-- the root's entry of an address names exactly this table, so that each page of its region may be mapped, once; walks
-- in other regions are as before
pub record IsInstalled (e : Estate) (va frame : ℕ) (m n : Mem) : Type 0 where
  pub entry : first_entry n e.root va ≡ table_word frame
  pub may_map : (at : ℕ) → vpn_1 at ≡ vpn_1 va → at % 4096 ≡ 0 → map_refusal n e.root at ≡ None
  pub elsewhere : SameElsewhere 4194304 va m n e.share.frames e.root

-- and its slot says so
pub record IsTableCall (e : Estate) (d x : Dom) (m n : Mem) (frame : ℕ) : Type 0 where
  pub done : IsDone 0 d x
  pub installed : IsInstalled e (argument_b d) frame m n
  pub slot : cap_at x.caps (argument_a d) ≡ Some (cap.Table frame (Some (argument_b d)))
  pub others : SlotsStay (argument_a d) d.caps x.caps
  pub rest : x ≡ record d { threads = x.threads; replies = x.replies; caps = x.caps }

abbrev pub TableLaw : Type 0
TableLaw =
    (e : Estate) (d x : Dom) (m : Mem) (frame : ℕ) → Kept e d m → Makes e d 3 → (call e d m).value ≡ inr x
    → table_of (cap_at d.caps (argument_a d)) ≡ Some frame → IsTableCall e d x m (memory_after e d m) frame

-- no access of the page succeeds any more, walks elsewhere are as before, and the slot is mapped nowhere
pub record IsUnmapped (e : Estate) (d x : Dom) (m n : Mem) (frame rights va : ℕ) : Type 0 where
  pub done : IsDone 0 d x
  pub faults : FaultsIn 4096 va n e.share.frames e.root
  pub elsewhere : SameElsewhere 4096 va m n e.share.frames e.root
  pub slot : cap_at x.caps (argument_a d) ≡ Some (cap.Frame frame rights None)
  pub others : SlotsStay (argument_a d) d.caps x.caps
  pub rest : x ≡ record d { threads = x.threads; replies = x.replies; caps = x.caps }

abbrev pub UnmapLaw : Type 0
UnmapLaw = (e : Estate) (d : Dom) (m : Mem) (frame rights va : ℕ) → Kept e d m → Makes e d 5
    → cap_at d.caps (argument_a d) ≡ Some (cap.Frame frame rights (Some va))
    → IsUnmapped e d (after_call e d m) m (memory_after e d m) frame rights va

-- ---- DELETE of a table, and of a line

-- no access in the table's region succeeds any more, and walks elsewhere are as before
pub record IsUninstalled (e : Estate) (va : ℕ) (m n : Mem) : Type 0 where
  pub faults : FaultsIn 4194304 va n e.share.frames e.root
  pub elsewhere : SameElsewhere 4194304 va m n e.share.frames e.root

abbrev pub DeletedTableLaw : Type 0
DeletedTableLaw = (e : Estate) (d x : Dom) (m : Mem) (frame va : ℕ) → Kept e d m → Makes e d 7
    → (call e d m).value ≡ inr x → cap_at d.caps (argument_a d) ≡ Some (cap.Table frame (Some va))
    → IsUninstalled e va m (memory_after e d m)

-- of a line, memory is as it was
abbrev pub DeletedLineLaw : Type 0
DeletedLineLaw = (e : Estate) (d x : Dom) (m : Mem) (line : ℕ) → Makes e d 7 → (call e d m).value ≡ inr x
    → cap_at d.caps (argument_a d) ≡ Some (cap.Irq line) → memory_after e d m ≡ m
