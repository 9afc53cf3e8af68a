-- Small logs, step by step: what is told of an event, what events add up to, and how a slot goes on.
use Rattle.std.specs.Prelude.{◌≡◌, ℕ, ◌+◌, [], ◌∷◌, refl}
use Rattle.rv_core.specs.Registers.{zeros}
use Rattle.irq_partition.specs.Interrupts.{next_cycle, due}
use Rattle.mem_system.specs.Tally.{none, plus}
use Rattle.mem_system.specs.TallyLaws.{in_first, in_memory}
use Rattle.thread_set.specs.declared.Thread.{Thread}
use Rattle.thread_set.specs.declared.ThreadState.TheVariants.{Ready, Ended}
use Rattle.thread_set.specs.Threads.{Threads}
use Rattle.call_table.specs.declared.DomainStatus.TheVariants.{Running, Exited}
use Rattle.call_table.specs.Domain.{Dom}
use Rattle.world_view.specs.Event.{interrupts_of, event}
use Rattle.world_view.specs.Event.Event.{Deliver, Run}
use Rattle.world_view.specs.Machine.{Setting, Local, step, happened}
use Rattle.domain_events.specs.Events.{Observed, Slot, happening, counted, observed, total, events_in, events_until, with_last}
use Rattle.domain_events.specs.Events.Happening.{Ran, Delivered, Jumped}
use Rattle.domain_events.specs.Laws.{AddsUp}

-- ---- what happened

-- two threads have ended, and the next one stands at 65552
abbrev ended : Thread
ended = record { state = Ended; pc = 65536; regs = zeros }

abbrev third : Threads
third = record { before = ended ∷ ended ∷ []; current = record { state = Ready; pc = 65552; regs = zeros }; after = [] }

ran : (d : Dom) → happening (record d { threads = third }) Run ≡ Ran 2 65552
unfolding happening
ran d = refl

delivered : (d : Dom) → happening d (Deliver 7) ≡ Delivered 7
unfolding happening
delivered d = refl

-- ---- a domain that has ended: the clock goes to the slot's end

abbrev exited : Local → Local
exited s = record s { dom = record s.dom { status = Exited 0 }; clock = 40 }

still : (w : Setting) (s : Local) → events_until w 100 (exited s)
    ≡ record { at = 40; what = Jumped 100; cycles = 60; counts = none } ∷ []
unfolding events_in observed happening counted event step happened
still w s = refl

-- past its end there are none
past : (w : Setting) (s : Local) → events_until w 40 (exited s) ≡ []
unfolding events_in
past w s = refl

-- ---- one that runs and has no thread ready: its clock goes to its next moment, which comes on line 3 at 70

abbrev idle : Local → Local
idle s = record s {
  dom = record s.dom { status = Running; threads = record third { current = ended }; delivered = 0 };
  clock = 40;
}

abbrev with_moment : Setting → Setting
with_moment w = record w { own = record w.own { moments = record { at = 70; line = 3 } ∷ [] } }

first : (w : Setting) (s : Local) → events_in (with_moment w) 100 1 (idle s)
    ≡ record { at = 40; what = Jumped 70; cycles = 30; counts = none } ∷ []
unfolding events_in observed happening counted event interrupts_of next_cycle due step happened
first w s = refl

-- then it is delivered
next : (w : Setting) (s : Local) → (observed (with_moment w) 100 (record (idle s) { clock = 70 })).what ≡ Delivered 3
unfolding observed happening event interrupts_of next_cycle due
next w s = refl

-- ---- sums

abbrev fetched : Observed
fetched = record { at = 40; what = Ran 0 65536; cycles = 4; counts = record none { fetches = in_first; looks_kept = 1 } }

abbrev missed : Observed
missed = record { at = 44; what = Ran 0 65540; cycles = 90; counts = record none { fetches = in_memory; looks_kept = 1 } }

counts : total (fetched ∷ missed ∷ [])
    ≡ record none { fetches = record { first = 1; second = 0; memory = 1 }; looks_kept = 2 }
unfolding total plus none
counts = refl

-- a slot from 40 on whose last event passes its end, 100, and is whole
abbrev slot : Slot
slot = record { number = 5; begins = 40; events = fetched ∷ missed ∷ [] }

adds_up : AddsUp 134 slot
adds_up = record { follow = (refl, (refl, refl)); sum = refl }

-- ---- a log goes on in its last slot

abbrev empty_slot : ℕ → Slot
empty_slot k = record { number = k; begins = 100 + k; events = [] }

goes_on : with_last fetched (empty_slot 1 ∷ empty_slot 4 ∷ [])
    ≡ empty_slot 1 ∷ record { number = 4; begins = 104; events = fetched ∷ [] } ∷ []
unfolding with_last
goes_on = refl

in_order : with_last missed (slot ∷ record { number = 6; begins = 200; events = fetched ∷ [] } ∷ [])
    ≡ slot ∷ record { number = 6; begins = 200; events = fetched ∷ missed ∷ [] } ∷ []
unfolding with_last
in_order = refl

-- with no slot there is nothing to go on
nowhere : with_last fetched [] ≡ []
unfolding with_last
nowhere = refl
