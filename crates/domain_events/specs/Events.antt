-- The events of a domain in its slots, each with its time and with what it counted: alone, and on the whole machine.
use Rattle.std.specs.Prelude.{ℕ, zero, suc, ◌-◌, ◌==◌, nat_lt, true, false, if◌then◌else◌, List, [], ◌∷◌, ◌++◌}
use Rattle.mem_system.specs.Tally.{Tally, none, plus, tally_all}
use Rattle.thread_set.specs.Threads.{current_number}
use Rattle.call_table.specs.Domain.{Dom}
use Rattle.mail_slots.specs.Sides.{Arrival}
use Rattle.sched_table.specs.Schedule.{entry_of_slot, slot_end}
use Rattle.image_check.specs.Public.{Public}
use Rattle.image_check.specs.Own.{Own}
use Rattle.image_check.specs.Image.{Image, own_of}
use Rattle.world_view.specs.Kernel.{estate}
use Rattle.world_view.specs.Mail.{turns, nth_of}
use Rattle.world_view.specs.Event.{instruction, delivery_touches, Event, event}
use Rattle.world_view.specs.Event.Event.{Jump, Deliver, Run}
use Rattle.world_view.specs.Machine.{Local, Setting, setting, step, part_of, clock_of, alone_enter, alone_mail}
use Rattle.world_view.specs.Harts.{Harts, progress_of, slots_of, domain_on, slot_end_on, next, harts}

-- ---- one event

pub data Happening : Type 0 where
  Ran : ℕ → ℕ → Happening  -- this thread ran the instruction at this address
  Delivered : ℕ → Happening  -- a moment came on this line
  Jumped : ℕ → Happening  -- the clock went there

-- as it was seen
pub record Observed : Type 0 where
  pub at : ℕ  -- the clock before it
  pub what : Happening
  pub cycles : ℕ  -- from it to the next
  pub counts : Tally

-- what happens to a domain that is like this before it
unfoldable pub happening : Dom → Event → Happening
happening d (Jump t) = Jumped t
happening d (Deliver line) = Delivered line
happening d Run = Ran (current_number d.threads) d.threads.current.pc

-- what it touches counts, as it is paid; a jump touches nothing
unfoldable pub counted : Setting → Local → Event → Tally
counted w s (Jump t) = none
counted w s (Deliver line) = tally_all w.levels w.pinned s.caches (delivery_touches w.machine w.clone)
counted w s Run =
    tally_all w.levels w.pinned s.caches
    (instruction w.machine (estate w.machine w.own) w.clone s.clock s.dom s.storage).notes

-- the next step, in a slot that ends then
unfoldable pub observed : Setting → ℕ → Local → Observed
observed w end s =
    let e = event w.own s.clock end s.dom in
    record {
      at = s.clock;
      what = happening s.dom e;
      cycles = (step w end s).clock - s.clock;
      counts = counted w s e;
    }

-- ---- a slot

pub record Slot : Type 0 where
  pub number : ℕ  -- among the slots of its hart
  pub begins : ℕ  -- the clock then
  pub events : List Observed

-- those of as many steps, at most, while the clock is below the end: the last may pass it, and is whole
unfoldable pub events_in : Setting → ℕ → ℕ → Local → List Observed
events_in w end zero s = []
events_in w end (suc n) s = if nat_lt s.clock end then observed w end s ∷ events_in w end n (step w end s) else []

-- those of a stretch
abbrev pub events_until : Setting → ℕ → Local → List Observed
events_until w end s = events_in w end (end - s.clock) s

-- what all of them counted
unfoldable pub total : List Observed → Tally
total [] = none
total (e ∷ events) = plus e.counts (total events)

-- ---- alone

-- slot k of the domain, which it begins so
unfoldable pub slot_from : Public → Own → ℕ → Local → Slot
slot_from p o k s = record {
  number = k;
  begins = s.clock;
  events = events_until (setting p.hardware o true) (slot_end p.schedule k) s;
}

-- with these words that come in
abbrev pub slot_alone : Public → Own → ℕ → Arrival → Local → Slot
slot_alone p o k words s = slot_from p o k (alone_enter p o k words s)

-- of its slots before slot k, where this came in boxes as they began
unfoldable pub slots_mailed : Public → Own → ℕ → List Arrival → ℕ → List Slot
slots_mailed p o d came zero = []
slots_mailed p o d came (suc k) =
    let before = slots_mailed p o d came k in
    if (entry_of_slot p.schedule k).domain == d
    then before ++ slot_alone p o k (nth_of came (turns p.schedule d k)) (alone_mail p o d came k) ∷ []
    else before

-- ---- on the whole machine

-- a slot has begun
unfoldable pub begun_slot : ℕ → Harts → Harts → Slot
begun_slot h s later = record { number = slots_of h s; begins = clock_of h later.world; events = [] }

-- it goes on with this event
unfoldable pub with_last : Observed → List Slot → List Slot
with_last e [] = []
with_last e (x ∷ []) = record x { events = x.events ++ e ∷ [] } ∷ []
with_last e (x ∷ y ∷ xs) = x ∷ with_last e (y ∷ xs)

-- of domain d in its slot
unfoldable pub observed_on : Image → ℕ → ℕ → Harts → Observed
observed_on i d h s = observed (setting i.all.hardware (own_of i d) false) (slot_end_on i h s) (part_of h d s.world)

-- a hart's next event, which begins a slot of domain d or is one of d in it, or neither
unfoldable pub with_next : Image → ℕ → ℕ → Harts → List Slot → List Slot
with_next i d h s log =
    if domain_on i h s == d
    then if (progress_of h s).inside then with_last (observed_on i d h s) log
    else log ++ begun_slot h s (next i h s) ∷ []
    else log

unfoldable pub logged_from : Image → ℕ → List ℕ → Harts → List Slot → List Slot
logged_from i d [] s log = log
logged_from i d (h ∷ hs) s log = logged_from i d hs (next i h s) (with_next i d h s log)

-- domain d's events, slot by slot, after events of the harts in this order
unfoldable pub logged : Image → ℕ → List ℕ → List Slot
logged i d order = logged_from i d order (harts i []) []
