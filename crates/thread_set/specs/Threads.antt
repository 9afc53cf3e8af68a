-- The eight threads of a domain: those before the current one by their numbers, the current one, and those after it.
use Rattle.std.specs.Prelude.{◌≡◌, ℕ, ◌+◌, ◌-◌, ◌%◌, nat_eq, Bool, true, false, not, if◌then◌else◌, List, [], ◌∷◌, ◌++◌, length, map, take, drop, replicate, slice_index_or, slice_set, Option, Some, None}
use Rattle.std.specs.List.{position}
use Rattle.rv_core.specs.Registers.{zeros, with_register}
use Rattle.thread_set.specs.declared.ThreadState.{ThreadState}
use Rattle.thread_set.specs.declared.ThreadState.TheVariants.{Never, Ready, Waiting, Ended}
use Rattle.thread_set.specs.declared.Thread.{Thread}

pub record Threads : Type 0 where
  pub before : List Thread
  pub current : Thread
  pub after : List Thread

-- by their numbers, from 0 on
abbrev pub all_of : Threads → List Thread
all_of ts = ts.before ++ ts.current ∷ ts.after

pub record AreThreads (ts : Threads) : Type 0 where
  pub eight : length (all_of ts) ≡ 8

-- the current one's number
abbrev pub current_number : Threads → ℕ
current_number ts = length ts.before

-- never started: it has no place and no registers
unfoldable pub never : Thread
never = record { state = Never; pc = 0; regs = zeros }

abbrev pub thread_at : Threads → ℕ → Thread
thread_at ts t = slice_index_or (all_of ts) t never

-- ---- states

abbrev pub is_ready : ThreadState → Bool
is_ready Ready = true
is_ready _ = false

-- ready or waiting
abbrev pub is_live : ThreadState → Bool
is_live Ready = true
is_live (Waiting line) = true
is_live _ = false

abbrev pub waits_for : ℕ → ThreadState → Bool
waits_for line (Waiting l) = nat_eq l line
waits_for line _ = false

abbrev pub in_state : ThreadState → Thread → Thread
in_state state x = record x { state = state }

-- ---- whose turn it is

-- these threads, of which number t is current
unfoldable pub turned_to : ℕ → List Thread → Threads
turned_to t all =
    record { before = take t all; current = slice_index_or all t never; after = drop (t + 1) all }

-- from the one after the current on, in cyclic order, and the current one last
abbrev pub in_turn : Threads → List Thread
in_turn ts = ts.after ++ (ts.before ++ ts.current ∷ [])

-- how many threads stand between number a and number b, in cyclic order from a on; from a to a all the others do
abbrev pub between : ℕ → ℕ → ℕ
between a b = (b + 7 - a) % 8

-- so many after the current one, in cyclic order
abbrev pub turned_by : Threads → Option ℕ → Threads
turned_by ts None = ts
turned_by ts (Some n) = turned_to ((current_number ts + 1 + n) % 8) (all_of ts)

-- the next ready one in cyclic order is current, where there is one
unfoldable pub yielded : Threads → Threads
yielded ts = turned_by ts (position (λ x. is_ready x.state) (in_turn ts))

-- a current thread that isn't ready gives way
unfoldable pub given_way : Threads → Threads
given_way ts = if is_ready ts.current.state then ts else yielded ts

-- ---- changes

unfoldable pub with_current : Threads → Thread → Threads
with_current ts x = record ts { current = x }

unfoldable pub with_thread : Threads → ℕ → Thread → Threads
with_thread ts t x = turned_to (current_number ts) (slice_set (all_of ts) t x)

-- ready at an entry, all registers 0 but x10
abbrev pub started : ℕ → ℕ → Thread
started entry argument = record { state = Ready; pc = entry; regs = with_register zeros 10 argument }

-- thread 0 is ready at the entry and current, all registers 0, and no other was ever started
unfoldable pub threads_at_entry : ℕ → Threads
threads_at_entry entry = record {
  before = [];
  current = record { state = Ready; pc = entry; regs = zeros };
  after = replicate 7 never;
}

-- the least-numbered thread that is not live
unfoldable pub vacant : Threads → Option ℕ
vacant ts = position (λ x. not (is_live x.state)) (all_of ts)

abbrev pub started_at : Threads → ℕ → ℕ → Option ℕ → Threads
started_at ts entry argument None = ts
started_at ts entry argument (Some t) = with_thread ts t (started entry argument)

unfoldable pub spawned : Threads → ℕ → ℕ → Threads
spawned ts entry argument = started_at ts entry argument (vacant ts)

unfoldable pub blocked : ℕ → Threads → Threads
blocked line ts = given_way (with_current ts (in_state (Waiting line) ts.current))

unfoldable pub finished : Threads → Threads
finished ts = given_way (with_current ts (in_state Ended ts.current))

-- the least-numbered thread that waits for a line
unfoldable pub waiter : ℕ → Threads → Option ℕ
waiter line ts = position (λ x. waits_for line x.state) (all_of ts)

-- ready, with the reply (0, 1)
abbrev pub resumed : Thread → Thread
resumed x = record x { state = Ready; regs = with_register (with_register x.regs 10 0) 11 1 }

abbrev pub resumed_at : Threads → Option ℕ → Threads
resumed_at ts None = ts
resumed_at ts (Some t) = given_way (with_thread ts t (resumed (thread_at ts t)))

unfoldable pub woken : ℕ → Threads → Threads
woken line ts = resumed_at ts (waiter line ts)

abbrev pub end_live : Thread → Thread
end_live x = if is_live x.state then in_state Ended x else x

-- every live thread is ended
unfoldable pub all_ended : Threads → Threads
all_ended ts =
    record { before = map end_live ts.before; current = end_live ts.current; after = map end_live ts.after }
