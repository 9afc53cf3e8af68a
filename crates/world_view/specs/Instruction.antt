-- What instructions do to a domain.
use Rattle.std.specs.Prelude.{ℕ, ◌+◌, ◌/◌, ◌%◌, ◌^◌, List, [], ◌∷◌, ◌++◌}
use Rattle.rv_decode.specs.declared.Counter.{Counter}
use Rattle.rv_decode.specs.declared.Counter.TheVariants.{Cycle, Time, Instret, CycleHigh, TimeHigh, InstretHigh}
use Rattle.rv_core.specs.declared.Trap.{Trap}
use Rattle.rv_core.specs.Exceptions.{code_of}
use Rattle.call_table.specs.declared.DomainStatus.TheVariants.{Stopped}
use Rattle.call_table.specs.Domain.{Dom, placed}

-- ---- exceptions

-- an exception stops the domain, and leaves its thread as it was
unfoldable pub stopped : ℕ → ℕ → Dom → Dom
stopped code value d = record d { status = Stopped code d.threads.current.pc value }

unfoldable pub trapped : Trap → Dom → Dom
trapped trap d = stopped (code_of trap.exception) trap.value d

-- ---- what retires

-- the thread goes on there with these registers, and one more instruction has retired
unfoldable pub retired_at : ℕ → List ℕ → Dom → Dom
retired_at pc regs d = record (placed pc regs d) { retired = d.retired + 1 }

-- a value of 64 bits in its low and its high half
abbrev pub low_half : ℕ → ℕ
low_half n = n % 2 ^ 32

abbrev pub high_half : ℕ → ℕ
high_half n = n / 2 ^ 32 % 2 ^ 32

-- what a read of a counter gives, at a clock: time is cycles
abbrev pub counter_value : Counter → ℕ → Dom → ℕ
counter_value Cycle t d = low_half t
counter_value Time t d = low_half t
counter_value Instret t d = low_half d.retired
counter_value CycleHigh t d = high_half t
counter_value TimeHigh t d = high_half t
counter_value InstretHigh t d = high_half d.retired

unfoldable pub read_out : ℕ → Dom → Dom
read_out value d = record d { readings = d.readings ++ value ∷ [] }
