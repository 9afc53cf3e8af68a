-- Kernel calls at their ends, computed from the definitions.
use Rattle.std.specs.Prelude.{◌≡◌, ℕ, zero, suc, ◌+◌, ◌^◌, true, false, List, [], ◌∷◌, length, replicate, slice_set, Some, None, refl}
use Rattle.tp_base.specs.Table.{empty}
use Rattle.tp_base.specs.Act.{go_on, ◌>>=◌, ◌>>◌, give, stop, check, either}
use Rattle.rv_core.specs.Registers.{zeros, with_register}
use Rattle.thread_set.specs.declared.ThreadState.TheVariants.{Ready, Waiting, Ended}
use Rattle.thread_set.specs.Threads as threads
use Rattle.thread_set.specs.Threads.{current_number, never, turned_to, yielded, given_way, with_current, with_thread, vacant, spawned, blocked, finished, waiter, woken, all_ended}
use Rattle.kernel_clone.specs.Permissions.{may_make, every_call, calls_below}
use Rattle.cap_table.specs.declared.Cap.TheVariants as cap
use Rattle.cap_table.specs.Slots.{empty_slots, in_use}
use Rattle.call_table.specs.declared.DomainStatus.TheVariants.{Exited}
use Rattle.call_table.specs.declared.Reply.{Reply}
use Rattle.call_table.specs.Domain.{Dom, dom_at_entry, placed, recorded, replied, exited, with_caps, is_set, with_bit, signalled_by, signalled, delivered_on, turned, waiting, thread_ended, with_spawned}
use Rattle.call_table.specs.Claims.{Estate}
use Rattle.call_table.specs.Calls.{Note, zeroed_in, entries_in, work_of, empty_buffer, some_or, is_slot, filled, put_byte, clear_entry, drop_slot, delete, line_at, poll, waited, wait, signal, spawn, call_of, number_made, call}

-- a domain of which the calls below use nothing
abbrev pub nothing : Estate
nothing =
    record {
      share = record { frames = 0; colours = 0; own = [] };
      root = 0;
      fixed = [];
      calls = every_call;
      number = 0;
    }

unfoldable pub fresh : Dom
fresh = dom_at_entry 65536 empty_slots

-- what a call leaves of a domain
abbrev pub after : Dom → ℕ → ℕ → Dom
after d number a = either (call_of nothing d number a 0 0 empty).value

abbrev pub answer : ℕ → ℕ → Reply
answer code value = record { code = code; value = value }

-- a code past 255 is kept whole
pub wide_code : (after fresh 0 70000).status ≡ Exited 70000
unfolding fresh dom_at_entry threads.threads_at_entry exited all_ended call_of give either
wide_code = refl

-- the last byte of the most that a domain prints, and one more: 11 is OutputFull
abbrev pub printed_so_many : ℕ → Dom
printed_so_many n = record fresh { printed = replicate n 0x41 }

pub last_byte : length (after (printed_so_many 4095) 1 0x142).printed ≡ 4096
unfolding fresh dom_at_entry threads.threads_at_entry placed replied with_current put_byte call_of go_on ◌>>◌
    ◌>>=◌ give stop check either
last_byte = refl

pub no_byte_more : ((after (printed_so_many 4096) 1 0x42).printed ≡ replicate 4096 0x41)
    × ((after (printed_so_many 4096) 1 0x42).replies ≡ answer 11 0 ∷ [])
unfolding fresh dom_at_entry threads.threads_at_entry placed replied with_current put_byte call_of go_on ◌>>◌
    ◌>>=◌ give stop check either
no_byte_more = (refl, refl)

-- 15 and more are bad calls: 1 is BadCall
pub bad_call : (after fresh 15 0).replies ≡ answer 1 0 ∷ []
unfolding fresh dom_at_entry threads.threads_at_entry placed replied with_current call_of stop either
bad_call = refl

-- ---- lines

-- line 5 in slot 0
abbrev pub with_line : Dom
with_line = record fresh { caps = Some (cap.Irq 5) ∷ replicate 63 None }

-- POLL of a bit that is clear gives 0
pub clear_bit : (after with_line 9 0).replies ≡ answer 0 0 ∷ []
unfolding fresh dom_at_entry threads.threads_at_entry placed replied with_current with_bit call_of poll
    line_at filled is_slot some_or go_on ◌>>◌ ◌>>=◌ give stop check either
clear_bit = refl

-- SIGNAL, for which no thread waits, sets it; POLL and WAIT then give 1 and clear it
abbrev pub line_set : Dom
line_set = after with_line 11 0

abbrev pub taken_by : ℕ → Type 0
taken_by number = ((after line_set number 0).replies ≡ answer 0 0 ∷ answer 0 1 ∷ [])
    × (is_set (after line_set number 0) 5 ≡ false)

pub set_bit : (is_set line_set 5 ≡ true) × (taken_by 9 × taken_by 10)
unfolding fresh dom_at_entry threads.threads_at_entry placed replied recorded with_current with_bit signalled
    signalled_by waiter never call_of poll waited wait signal line_at filled is_slot some_or go_on ◌>>◌ ◌>>=◌
    give stop check either
set_bit = (refl, ((refl, refl), (refl, refl)))

-- WAIT for a bit that is clear has no reply: the thread waits, past its call
abbrev pub waits : Dom
waits = after with_line 10 0

pub thread_waits : (waits.threads.current ≡ record { state = Waiting 5; pc = 65540; regs = zeros })
    × (waits.replies ≡ [])
unfolding fresh dom_at_entry threads.threads_at_entry with_current waiting turned_to yielded given_way blocked
    never call_of waited wait line_at filled is_slot some_or go_on ◌>>◌ ◌>>=◌ give stop check either
thread_waits = (refl, refl)

-- and a delivery of the line wakes it with (0, 1), which is recorded; the bit stays clear
abbrev pub woken_up : Dom
woken_up = delivered_on 5 waits

pub woken_by_delivery : (woken_up.replies ≡ answer 0 1 ∷ [])
    × (woken_up.threads.current
    ≡ record { state = Ready; pc = 65540; regs = with_register (with_register zeros 10 0) 11 1 })
    × (is_set woken_up 5 ≡ false) × (woken_up.delivered ≡ 1)
unfolding fresh dom_at_entry threads.threads_at_entry recorded with_current with_thread waiting signalled
    signalled_by delivered_on turned_to yielded given_way blocked waiter woken never call_of waited wait
    line_at filled is_slot some_or go_on ◌>>◌ ◌>>=◌ give stop check either
woken_by_delivery = (refl, refl, refl, refl)

-- ---- threads

-- SPAWN at no multiple of 4: 7 is BadAddress
pub bad_entry : (after fresh 12 65538).replies ≡ answer 7 0 ∷ []
unfolding fresh dom_at_entry threads.threads_at_entry placed replied with_current call_of spawn go_on ◌>>◌
    ◌>>=◌ give stop check either
bad_entry = refl

-- so many SPAWNs
abbrev pub after_spawns : ℕ → Dom
after_spawns zero = fresh
after_spawns (suc n) = after (after_spawns n) 12 65536

-- seven start threads 1 to 7, and there is none for the eighth: 13 is NoThread
pub eighth_spawn : (after_spawns 8).replies
    ≡ answer 0 1 ∷ answer 0 2 ∷ answer 0 3 ∷ answer 0 4
    ∷ answer 0 5 ∷ answer 0 6 ∷ answer 0 7 ∷ answer 13 0 ∷ []
unfolding fresh dom_at_entry threads.threads_at_entry placed replied with_current with_thread with_spawned
    turned_to vacant spawned never call_of spawn some_or go_on ◌>>◌ ◌>>=◌ give stop check either
eighth_spawn = refl

-- YIELD of thread 0 gives thread 1 its turn
pub next_thread : current_number (after (after_spawns 2) 13 0).threads ≡ 1
unfolding fresh dom_at_entry threads.threads_at_entry placed replied with_current with_thread with_spawned
    turned turned_to yielded vacant spawned never call_of spawn some_or go_on ◌>>◌ ◌>>=◌ give stop check
    either
next_thread = refl

-- ENDTHREAD of the last thread ends the domain with code 0, and the thread stays at its call
pub last_thread : ((after fresh 14 0).status ≡ Exited 0)
    × ((after fresh 14 0).threads.current ≡ record { state = Ended; pc = 65536; regs = zeros })
unfolding fresh dom_at_entry threads.threads_at_entry with_current thread_ended turned_to yielded given_way
    finished never call_of give either
last_thread = (refl, refl)

-- ---- calls that are left out

-- a domain that may make EXIT and PUT alone
abbrev pub few : Estate
few = record nothing { calls = 2 ^ 0 + 2 ^ 1 }

-- a domain whose next call has this number
abbrev pub asking : ℕ → Dom
asking number =
    record fresh {
      threads =
          with_current fresh.threads (record fresh.threads.current { regs = slice_set zeros 17 number });
    }

pub made : (number_made few (asking 1) ≡ 1) × (number_made nothing (asking 13) ≡ 13)
unfolding fresh dom_at_entry threads.threads_at_entry with_current may_make calls_below
made = (refl, refl)

-- its YIELD is none: 1 is BadCall, and the operation is that of a bad call
pub left_out : ((either (call few (asking 13) empty).value).replies ≡ answer 1 0 ∷ [])
    × ((work_of (number_made few (asking 13)) []).op ≡ 18)
unfolding fresh dom_at_entry threads.threads_at_entry placed replied with_current may_make call call_of stop
    work_of zeroed_in entries_in either
left_out = (refl, refl)

-- ---- the work of calls, and the buffer

abbrev pub notes_after : Dom → ℕ → ℕ → List Note
notes_after d number a = (call_of nothing d number a 0 0 empty).notes

-- a bad call's operation is 18, and it does nothing
pub bad_work : work_of 15 (notes_after fresh 15 0) ≡ record { op = 18; zeroed = None; entries = [] }
unfolding call_of stop work_of zeroed_in entries_in
bad_work = refl

-- DELETE of an interrupt line writes no entry, and empties the buffer all the same
pub line_deleted : notes_after with_line 7 0 ≡ Note.Emptied ∷ []
unfolding fresh dom_at_entry threads.threads_at_entry placed replied with_current with_caps call_of delete
    filled is_slot some_or drop_slot clear_entry empty_buffer in_use go_on ◌>>◌ ◌>>=◌ give stop check
line_deleted = refl

-- DELETE of an empty slot is refused, and doesn't empty it
pub nothing_deleted : notes_after fresh 7 0 ≡ []
unfolding fresh dom_at_entry threads.threads_at_entry empty_slots call_of delete filled is_slot some_or go_on
    ◌>>◌ ◌>>=◌ give stop check
nothing_deleted = refl
