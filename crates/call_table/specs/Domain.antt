-- The state of one domain.
use Rattle.std.specs.Prelude.{ℕ, ◌+◌, ◌-◌, ◌%◌, ◌^◌, nat_lt, Bool, true, false, if◌then◌else◌, List, [], ◌∷◌, ◌++◌, length, replicate, slice_get, slice_index_or, slice_set, Option, Some, None}
use Rattle.std.specs.List.{list_any}
use Rattle.rv_core.specs.Registers.{with_register}
use Rattle.thread_set.specs.Threads as threads
use Rattle.thread_set.specs.Threads.{Threads, all_of, is_live, with_current, yielded, blocked, finished, spawned, waiter, woken, all_ended}
use Rattle.thread_set.specs.declared.Thread.{Thread}
use Rattle.cap_table.specs.Slots.{Slots}
use Rattle.call_table.specs.declared.DomainStatus.{DomainStatus}
use Rattle.call_table.specs.declared.DomainStatus.TheVariants.{Running, Exited}
use Rattle.call_table.specs.declared.Reply.{Reply}

pub record Dom : Type 0 where
  pub status : DomainStatus
  pub threads : Threads
  pub caps : Slots
  pub delivered : ℕ  -- of its moments, from the first on
  pub bits : List Bool  -- by interrupt line, 32
  pub retired : ℕ  -- instructions
  pub readings : List ℕ  -- of the counters, all of them
  pub replies : List Reply  -- of kernel calls, all of them
  pub printed : List ℕ  -- bytes

abbrev pub is_running : DomainStatus → Bool
is_running Running = true
is_running _ = false

-- at its entry, with these capabilities
unfoldable pub dom_at_entry : ℕ → Slots → Dom
dom_at_entry entry caps = record {
  status = Running;
  threads = threads.threads_at_entry entry;
  caps = caps;
  delivered = 0;
  bits = replicate 32 false;
  retired = 0;
  readings = [];
  replies = [];
  printed = [];
}

-- ---- the current thread

abbrev pub thread_of : Dom → Thread
thread_of d = d.threads.current

-- it goes on there with these registers
unfoldable pub placed : ℕ → List ℕ → Dom → Dom
placed pc regs d =
    record d { threads = with_current d.threads (record d.threads.current { pc = pc; regs = regs }) }

-- the last reply, where one was recorded past so many
abbrev pub reply_past : ℕ → Dom → Option Reply
reply_past before d =
    if nat_lt before (length d.replies) then slice_get d.replies (length d.replies - 1) else None

unfoldable pub recorded : ℕ → ℕ → Dom → Dom
recorded code value d = record d { replies = d.replies ++ record { code = code; value = value } ∷ [] }

-- a reply goes to x10 and x11 and is recorded, and the thread moves on
unfoldable pub replied : ℕ → ℕ → Dom → Dom
replied code value d =
    let x = d.threads.current in
    record (placed ((x.pc + 4) % 2 ^ 32) (with_register (with_register x.regs 10 code) 11 value) d) {
      replies = d.replies ++ record { code = code; value = value } ∷ [];
    }

-- the call was done, and gives this value
abbrev pub done : ℕ → Dom → Dom
done value d = replied 0 value d

-- why it was not, and nothing else is changed
abbrev pub refused : ℕ → Dom → Dom
refused code d = replied code 0 d

-- the domain and its threads are ended
unfoldable pub exited : ℕ → Dom → Dom
exited code d = record d { status = Exited code; threads = all_ended d.threads }

unfoldable pub with_caps : Slots → Dom → Dom
with_caps caps d = record d { caps = caps }

-- ---- interrupt lines

abbrev pub is_set : Dom → ℕ → Bool
is_set d line = slice_index_or d.bits line false

unfoldable pub with_bit : ℕ → Bool → Dom → Dom
with_bit line bit d = record d { bits = slice_set d.bits line bit }

-- where a thread waits for the line, the least-numbered such is ready with reply (0, 1); else the line's bit is set
unfoldable pub signalled_by : ℕ → Option ℕ → Dom → Dom
signalled_by line None d = with_bit line true d
signalled_by line (Some t) d = recorded 0 1 (record d { threads = woken line d.threads })

unfoldable pub signalled : ℕ → Dom → Dom
signalled line d = signalled_by line (waiter line d.threads) d

-- the first of its moments that isn't delivered yet is, on its line
unfoldable pub delivered_on : ℕ → Dom → Dom
delivered_on line d = signalled line (record d { delivered = d.delivered + 1 })

-- ---- the choice of threads

-- the next ready one in cyclic order is current, where there is one
unfoldable pub turned : Dom → Dom
turned d = record d { threads = yielded d.threads }

-- the current thread waits for a line, past its call
unfoldable pub waiting : ℕ → Dom → Dom
waiting line d =
    let x = d.threads.current in
    record d { threads = blocked line (with_current d.threads (record x { pc = (x.pc + 4) % 2 ^ 32 })) }

abbrev pub has_live : Threads → Bool
has_live ts = list_any (λ x. is_live x.state) (all_of ts)

-- the current thread is ended, at its call, and the domain with the last live one
unfoldable pub thread_ended : Dom → Dom
thread_ended d =
    let ts = finished d.threads in
    record d { status = if has_live ts then d.status else Exited 0; threads = ts }

-- the least-numbered thread that isn't live starts there
unfoldable pub with_spawned : ℕ → ℕ → Dom → Dom
with_spawned entry argument d = record d { threads = spawned d.threads entry argument }
