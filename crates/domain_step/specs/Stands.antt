-- How the counts of a domain of the code grow in a step, and which of its parts stay.
use Rattle.std.specs.Prelude.{◌≡◌, ℕ, ◌+◌, ◌^◌, ◌<◌, ◌≤◌, if◌then◌else◌, Bool, true, None}
use Rattle.irq_partition.specs.Interrupts.{due}
use Rattle.thread_set.specs.Threads.{is_ready}
use Rattle.call_table.specs.declared.DomainStatus.TheVariants.{Running}
use Rattle.kernel_call.specs.declared.domain.Domain.{Domain}

-- one more of each still fits
pub record HasRoom (d : Domain) : Type 0 where
  pub retired : d.retired < 2 ^ 63
  pub readings : d.readings.count < 2 ^ 63
  pub replies : d.replies.count < 2 ^ 63

-- so many more instructions have retired, and each log has grown by at most so much
pub record Grows (a b c : ℕ) (old new : Domain) : Type 0 where
  pub retired : new.retired ≡ old.retired + a
  pub readings : new.readings.count ≤ old.readings.count + b
  pub replies : new.replies.count ≤ old.replies.count + c

-- its frames are used as they were, and its moments are the same
pub record KeepsFrames (old new : Domain) : Type 0 where
  pub caps : new.caps ≡ old.caps
  pub pool : new.pool ≡ old.pool
  pub map : new.map ≡ old.map
  pub layout : new.layout ≡ old.layout
  pub calls : new.calls ≡ old.calls
  pub number : new.number ≡ old.number
  pub moments : new.interrupts.moments ≡ old.interrupts.moments

-- it goes on as it stood: it runs if it ran, its thread is ready if it was, and no moment was delivered
pub record GoesOn (old new : Domain) : Type 0 where
  pub status : new.status ≡ old.status
  pub thread : new.threads.active.state ≡ old.threads.active.state
  pub interrupts : new.interrupts ≡ old.interrupts

-- an instruction retires where its domain goes on, and neither a trap nor a kernel call does
abbrev pub retired_by : Bool → ℕ
retired_by goes_on = if goes_on then 1 else 0

-- at a clock its next event is an instruction: it runs, its current thread is ready, and no moment is due
pub record IsPlain (d : Domain) (now : ℕ) : Type 0 where
  pub running : d.status ≡ Running
  pub ready : is_ready d.threads.active.state ≡ true
  pub none : due now d.interrupts ≡ None

-- at a clock before that end its next event is something else
abbrev pub IsOther : Domain → ℕ → ℕ → Type 0
IsOther d now end = IsPlain d now → end ≤ now
