-- What kernel calls and deliveries mean for the threads of a domain and for its interrupt lines, as laws in the words of a
-- program's author.
use Rattle.std.specs.Prelude.{◌≡◌, ◌≢◌, ℕ, ◌+◌, ◌<◌, ◌⊎◌, true, false, length, Some}
use Rattle.tp_base.specs.Act.{either}
use Rattle.phys_mem.specs.Mem.{Mem}
use Rattle.rv_core.specs.Registers.{register}
use Rattle.thread_set.specs.Threads.{Threads, AreThreads, thread_at, is_ready, waits_for, waiter, resumed}
use Rattle.cap_table.specs.Slots.{cap_at, line_of}
use Rattle.call_table.specs.Domain.{Dom, is_set, signalled, delivered_on}
use Rattle.call_table.specs.Claims.{Estate}
use Rattle.call_table.specs.Calls.{call, number_made}

-- ---- whose turn it is

-- the current thread is ready wherever one is
pub record HasTurn (ts : Threads) : Type 0 where
  pub eight : AreThreads ts
  pub ready : (t : ℕ) → t < 8 → is_ready (thread_at ts t).state ≡ true → is_ready ts.current.state ≡ true

-- the current thread may run
abbrev pub MayRun : Dom → Type 0
MayRun d = is_ready d.threads.current.state ≡ true

-- what the call of the current thread leaves
abbrev pub after_call : Estate → Dom → Mem → Dom
after_call e d m = either (call e d m).value

abbrev pub CallTurnLaw : Type 0
CallTurnLaw =
    (e : Estate) (d : Dom) (m : Mem) → HasTurn d.threads → MayRun d → HasTurn (after_call e d m).threads

abbrev pub DeliveryTurnLaw : Type 0
DeliveryTurnLaw = (d : Dom) (line : ℕ) → HasTurn d.threads → HasTurn (delivered_on line d).threads

-- ---- who wakes a thread that waits

-- the current thread calls SIGNAL of the line
pub record Signals (e : Estate) (d : Dom) (line : ℕ) : Type 0 where
  pub number : number_made e d ≡ 11
  pub names : line_of (cap_at d.caps (register d.threads.current.regs 10)) ≡ Some line

-- a call leaves a thread that waits for a line, but a SIGNAL of that line, and an EXIT, which ends all
abbrev pub CallWakesLaw : Type 0
CallWakesLaw = (e : Estate) (d : Dom) (m : Mem) (t line : ℕ) → HasTurn d.threads → MayRun d → t < 8
    → waits_for line (thread_at d.threads t).state ≡ true
    → (thread_at (after_call e d m).threads t ≡ thread_at d.threads t)
    ⊎ (Signals e d line ⊎ (number_made e d ≡ 0))

-- and a delivery of another line leaves it
abbrev pub DeliveryWakesLaw : Type 0
DeliveryWakesLaw = (d : Dom) (line other t : ℕ) → AreThreads d.threads → other ≢ line
    → waits_for other (thread_at d.threads t).state ≡ true
    → thread_at (delivered_on line d).threads t ≡ thread_at d.threads t

-- ---- what a signal, or a delivery, of a line does

-- where a thread waits for it, the one with the least number goes on with reply (0, 1), and all bits stay
abbrev pub SignalWakesLaw : Type 0
SignalWakesLaw = (d : Dom) (line t : ℕ) → AreThreads d.threads → waiter line d.threads ≡ Some t
    → (thread_at (signalled line d).threads t ≡ resumed (thread_at d.threads t))
    × ((signalled line d).bits ≡ d.bits)

-- where none does, its bit is set, and all threads stay
abbrev pub SignalSetsLaw : Type 0
SignalSetsLaw = (d : Dom) (line : ℕ) → AreThreads d.threads → line < length d.bits
    → ((t : ℕ) → t < 8 → waits_for line (thread_at d.threads t).state ≡ false)
    → (is_set (signalled line d) line ≡ true) × ((signalled line d).threads ≡ d.threads)

-- ---- the number of moments delivered

abbrev pub DeliveryCountLaw : Type 0
DeliveryCountLaw = (d : Dom) (line : ℕ) → (delivered_on line d).delivered ≡ d.delivered + 1

-- no call delivers one
abbrev pub CallCountLaw : Type 0
CallCountLaw = (e : Estate) (d : Dom) (m : Mem) → (after_call e d m).delivered ≡ d.delivered
