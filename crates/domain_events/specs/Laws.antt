-- The laws of a domain's events; they are the clauses of functions of `laws`.
use Rattle.std.specs.Prelude.{◌≡◌, ◌≢◌, ℕ, zero, suc, ◌+◌, ◌-◌, ◌<◌, ◌≤◌, ◌==◌, ◌⊎◌, nat_lt, Bool, true, false, if◌then◌else◌, List, [], ◌∷◌, ◌++◌, length, sum_by, slice_get, Option, Some}
use Rattle.std.specs.List.{All, AllPairs}
use Rattle.cycle_cost.specs.Costs.{CostTable}
use Rattle.irq_partition.specs.declared.Moment.{Moment}
use Rattle.sv32_walk.specs.declared.access.Access.TheVariants.{Fetch}
use Rattle.sv32_walk.specs.Walk.{walk}
use Rattle.rv_decode.specs.declared.Instr.{Instr}
use Rattle.rv_decode.specs.declared.Instr.TheVariants.{Ecall}
use Rattle.mem_system.specs.Cost.{Touch}
use Rattle.mem_system.specs.Tally.{none, one_if, price, tally_all}
use Rattle.mem_system.specs.Translation.{look_of}
use Rattle.thread_set.specs.Threads.{is_ready, thread_at}
use Rattle.call_table.specs.declared.DomainStatus.{DomainStatus}
use Rattle.call_table.specs.declared.DomainStatus.TheVariants.{Stopped}
use Rattle.call_table.specs.Domain.{Dom, is_running}
use Rattle.mail_slots.specs.Sides.{Arrival}
use Rattle.hardware_check.specs.Hardware.{Hardware}
use Rattle.image_check.specs.Public.{Public}
use Rattle.image_check.specs.Own.{Own}
use Rattle.image_check.specs.Image.{Image, own_of}
use Rattle.image_check.specs.Laws.{Runnable}
use Rattle.sched_table.specs.Schedule.{entry_of_slot, start, slot_end}
use Rattle.world_view.specs.Frames.{root_of}
use Rattle.world_view.specs.Cost.{hierarchy}
use Rattle.world_view.specs.Mail.{turns, nth_of}
use Rattle.world_view.specs.Machine.{Local, setting, step, clock_of, arrivals, alone_enter, alone_in, alone_mail}
use Rattle.world_view.specs.Event.{Event, event}
use Rattle.world_view.specs.Event.Event.{Run}
use Rattle.world_view.specs.View.{View, view_mailed}
use Rattle.world_view.specs.EventLaws.{step_touches, next_instruction}
use Rattle.world_view.specs.Relations.{IsDomain, HasNoMail, Agree}
use Rattle.world_view.specs.Harts.{Harts, IsInSlot, IsOutside, domain_on, public_on, hart_of_domain, slots_of, harts, view_on}
use Rattle.world_view.specs.HartLaws.{AreHartsOf, IsBetween, events_of, HasNoMailOn}
use Rattle.domain_events.specs.Events.{Happening, Observed, Slot, observed, events_in, total, slots_mailed, logged}
use Rattle.domain_events.specs.Events.Happening.{Ran, Delivered, Jumped}

-- ---- among others and alone

-- whatever the order of events, where a domain's hart has not begun its next slot, the domain's events are those of it
-- alone in as many slots of that hart, with what came in boxes as they began
abbrev pub EventsLaw : Type 0
EventsLaw = (i : Image) (d : ℕ) (order : List ℕ) → Runnable i → IsDomain i d → AreHartsOf i order →
    let h = hart_of_domain i d in
    let s = harts i order in
    IsBetween i h s
    → logged i d order ≡ slots_mailed (public_on i.all h) (own_of i d) d (arrivals d s.world) (slots_of h s)

-- where no box leads to it, alone with nothing that comes
abbrev pub AloneEventsLaw : Type 0
AloneEventsLaw =
    (i : Image) (d : ℕ) (order : List ℕ) → Runnable i → IsDomain i d → HasNoMail i d → AreHartsOf i order →
    let h = hart_of_domain i d in
    let s = harts i order in
    IsBetween i h s → logged i d order ≡ slots_mailed (public_on i.all h) (own_of i d) d [] (slots_of h s)

-- so they go by what all may know and by its own part, whatever the other domains are and whatever the order of events
abbrev pub TwoRunEventsLaw : Type 0
TwoRunEventsLaw =
    (i j : Image) (d : ℕ) (one two : List ℕ) → Runnable i → Runnable j → IsDomain i d → HasNoMail i d → Agree i j d
    → AreHartsOf i one → AreHartsOf j two →
    let h = hart_of_domain i d in
    let s = harts i one in
    let t = harts j two in
    slots_of h s ≡ slots_of h t → IsBetween i h s → IsBetween j h t → logged i d one ≡ logged j d two

-- ---- time

-- each event begins where the one before it ends, the first of them here; and the last ends there
abbrev pub Follow : ℕ → List Observed → ℕ → Type 0
Follow now [] end = now ≡ end
Follow now (e ∷ events) end = (e.at ≡ now) × Follow (now + e.cycles) events end

-- so their cycles add up to the slot's, whose last event may pass its end
pub record AddsUp (end : ℕ) (x : Slot) : Type 0 where
  pub follow : Follow x.begins x.events end
  pub sum : x.begins + sum_by (λ e. e.cycles) x.events ≡ end

-- the clock of the domain alone as its slot k has ended
abbrev pub clock_alone : Public → Own → ℕ → List Arrival → ℕ → ℕ
clock_alone p o d came k = (alone_in p o k (nth_of came (turns p.schedule d k)) (alone_mail p o d came k)).clock

abbrev pub CyclesLaw : Type 0
CyclesLaw = (p : Public) (o : Own) (d : ℕ) (came : List Arrival) (k : ℕ)
    → All (λ x. AddsUp (clock_alone p o d came x.number) x) (slots_mailed p o d came k)

-- each begins before its slot's end, and they go on until then: so an event that passes it is the last, and whole
pub record Fills (p : Public) (x : Slot) : Type 0 where
  pub early : All (λ e. e.at < slot_end p.schedule x.number) x.events
  pub full : slot_end p.schedule x.number ≤ x.begins + sum_by (λ e. e.cycles) x.events

abbrev pub FillsLaw : Type 0
FillsLaw = (i : Image) (h d : ℕ) (came : List Arrival) (k : ℕ) → Runnable i
    → All (Fills (public_on i.all h)) (slots_mailed (public_on i.all h) (own_of i d) d came k)

-- ---- at every moment

-- those of the domain alone before slot k of its hart, with what has come so far
abbrev pub slots_on : Image → ℕ → Harts → ℕ → List Slot
slots_on i d s k =
    slots_mailed (public_on i.all (hart_of_domain i d)) (own_of i d) d (arrivals d s.world) k

-- so it is while its hart is in no slot, or in another's
abbrev pub PastLaw : Type 0
PastLaw = (i : Image) (d : ℕ) (order : List ℕ) → Runnable i → IsDomain i d → AreHartsOf i order →
    let h = hart_of_domain i d in
    let s = harts i order in
    IsOutside h s ⊎ (domain_on i h s ≢ d) → logged i d order ≡ slots_on i d s (slots_of h s)

-- in its own slot, of which these are the events so far, they are a front of those that it has there alone
pub record IsInLast (i : Image) (d : ℕ) (s : Harts) (log : List Slot) : Type 0 where
  pub last : Slot
  pub rest : List Observed
  pub logged : log ≡ slots_on i d s (slots_of (hart_of_domain i d) s) ++ last ∷ []
  pub alone : slots_on i d s (suc (slots_of (hart_of_domain i d) s))
      ≡ slots_on i d s (slots_of (hart_of_domain i d) s) ++ record last { events = last.events ++ rest } ∷ []
  pub number : last.number ≡ slots_of (hart_of_domain i d) s
  pub adds_up : AddsUp (clock_of (hart_of_domain i d) s.world) last

abbrev pub NowLaw : Type 0
NowLaw = (i : Image) (d : ℕ) (order : List ℕ) → Runnable i → IsDomain i d → AreHartsOf i order →
    let h = hart_of_domain i d in
    let s = harts i order in
    IsInSlot h s → domain_on i h s ≡ d → IsInLast i d s (logged i d order)

-- where no box leads to a domain of its hart, how far its events are goes by the number of the hart's own events, whatever
-- the others' are and in whatever order they come
abbrev pub SameEventsLaw : Type 0
SameEventsLaw =
    (i : Image) (d : ℕ) (one two : List ℕ) → Runnable i → IsDomain i d → AreHartsOf i one → AreHartsOf i two →
    let h = hart_of_domain i d in
    HasNoMailOn i h → events_of h one ≡ events_of h two → logged i d one ≡ logged i d two

-- ---- which slots

-- one of the domain's own before slot k, which begins as the schedule says
pub record IsOwnSlot (p : Public) (d k : ℕ) (x : Slot) : Type 0 where
  pub before : x.number < k
  pub own : (entry_of_slot p.schedule x.number).domain ≡ d
  pub begins : x.begins ≡ start p.schedule x.number

-- all of them, in their order
pub record AreOwnSlots (p : Public) (d k : ℕ) (slots : List Slot) : Type 0 where
  pub each : All (IsOwnSlot p d k) slots
  pub ascend : AllPairs (λ x y. x.number < y.number) slots
  pub count : length slots ≡ turns p.schedule d k

abbrev pub OwnSlotsLaw : Type 0
OwnSlotsLaw = (p : Public) (o : Own) (d : ℕ) (came : List Arrival) (k : ℕ)
    → AreOwnSlots p d k (slots_mailed p o d came k)

-- ---- the price of an event

-- by what happened: an instruction takes `base` and the price of what it counts, a delivery the price alone; a jump goes
-- to its clock, and counts nothing
abbrev pub TakesBy : CostTable → Observed → Happening → Type 0
TakesBy costs e (Ran thread pc) = e.cycles ≡ costs.base + price costs e.counts
TakesBy costs e (Delivered line) = e.cycles ≡ price costs e.counts
TakesBy costs e (Jumped t) = (e.at + e.cycles ≡ t) × (e.counts ≡ none)

abbrev pub Takes : CostTable → Observed → Type 0
Takes costs e = TakesBy costs e e.what

-- each event of a domain alone
abbrev pub PriceLaw : Type 0
PriceLaw = (p : Public) (o : Own) (d : ℕ) (came : List Arrival) (k : ℕ)
    → All (λ x. All (Takes p.hardware.costs) x.events) (slots_mailed p o d came k)

-- and each on the whole machine, at each moment
abbrev pub WholePriceLaw : Type 0
WholePriceLaw = (i : Image) (d : ℕ) (order : List ℕ) → Runnable i → IsDomain i d → AreHartsOf i order
    → All (λ x. All (Takes i.all.hardware.costs) x.events) (logged i d order)

-- ---- what happened, in the words of threads and moments

-- the thread was current, and ready; its instruction there was looked up first
pub record RanSo (p : Hardware) (o : Own) (s : Local) (touches : List Touch) (thread pc : ℕ) : Type 0 where
  pub running : is_running s.dom.status ≡ true
  pub current : thread_at s.dom.threads thread ≡ s.dom.threads.current
  pub ready : is_ready (thread_at s.dom.threads thread).state ≡ true
  pub there : (thread_at s.dom.threads thread).pc ≡ pc
  pub more : List Touch
  pub looked_up : touches ≡ look_of p.line pc (walk s.storage.mem p.frames (root_of p o) pc Fetch) ∷ more

-- this moment is the domain's next
abbrev pub IsNext : Own → Dom → Moment → Type 0
IsNext o d x = slice_get o.moments d.delivered ≡ Some x

-- the domain's next moment, whose cycle had come, was of this line, and is delivered
pub record DeliveredSo (o : Own) (s later : Local) (line : ℕ) : Type 0 where
  pub running : is_running s.dom.status ≡ true
  pub moment : Moment
  pub next : IsNext o s.dom moment
  pub come : moment.at ≤ s.clock
  pub its_line : moment.line ≡ line
  pub delivered : later.dom.delivered ≡ s.dom.delivered + 1

-- the domain was ended, or had no thread that could go on. The clock goes to the slot's end, or to the next moment where
-- that is sooner; nothing else changes
pub record JumpedSo (o : Own) (end : ℕ) (s later : Local) (t : ℕ) : Type 0 where
  pub idle : (is_running s.dom.status ≡ false) ⊎ (is_ready s.dom.threads.current.state ≡ false)
  pub past : s.clock < t
  pub within : t ≤ end
  pub goes : (t ≡ end) ⊎ ((x : Moment) × IsNext o s.dom x × (x.at ≡ t))
  pub no_later : is_running s.dom.status ≡ true → (x : Moment) → IsNext o s.dom x → t ≤ x.at
  pub nothing_else : later ≡ record s { clock = t }

-- by what happened, to which this is what was touched and what is left
abbrev pub SeenSo : Hardware → Own → ℕ → Local → List Touch → Local → Happening → Type 0
SeenSo p o end s touches later (Ran thread pc) = RanSo p o s touches thread pc
SeenSo p o end s touches later (Delivered line) = DeliveredSo o s later line
SeenSo p o end s touches later (Jumped t) = JumpedSo o end s later t

-- alone, where the kernel's lines are pinned, and among others, where they aren't
abbrev pub SeenLaw : Type 0
SeenLaw = (p : Hardware) (o : Own) (pinned : Bool) (end : ℕ) (s : Local) → s.clock < end →
    let w = setting p o pinned in
    SeenSo p o end s (step_touches p o end s) (step w end s) (observed w end s).what

-- ---- what a stretch counts

-- all touches of as many steps, at most, while the clock is below the end
unfoldable pub touches_in : Hardware → Own → Bool → ℕ → ℕ → Local → List Touch
touches_in p o pinned end zero s = []
touches_in p o pinned end (suc n) s =
    if nat_lt s.clock end
    then step_touches p o end s ++ touches_in p o pinned end n (step (setting p o pinned) end s)
    else []

-- event by event nothing is lost, and nothing is counted twice
abbrev pub TotalLaw : Type 0
TotalLaw = (p : Hardware) (o : Own) (pinned : Bool) (end n : ℕ) (s : Local)
    → total (events_in (setting p o pinned) end n s)
    ≡ tally_all (hierarchy p) pinned s.caches (touches_in p o pinned end n s)

-- ---- how many instructions

abbrev pub is_run : Happening → Bool
is_run (Ran thread pc) = true
is_run (Delivered line) = false
is_run (Jumped t) = false

-- how many of these events are instructions, and how many of these slots'
abbrev pub runs_in : List Observed → ℕ
runs_in events = sum_by (λ e. one_if (is_run e.what)) events

abbrev pub runs_of : List Slot → ℕ
runs_of slots = sum_by (λ x. runs_in x.events) slots

-- an instruction is a kernel call
abbrev pub is_ecall : Option Instr → Bool
is_ecall (Some Ecall) = true
is_ecall _ = false

abbrev pub is_call : Hardware → Own → Local → Event → Bool
is_call p o s Run = is_ecall (next_instruction p o s.dom s.storage.mem)
is_call p o s _ = false

-- the kernel calls of as many steps alone, at most, while the clock is below the end
unfoldable pub calls_in : Hardware → Own → ℕ → ℕ → Local → ℕ
calls_in p o end zero s = 0
calls_in p o end (suc n) s =
    if nat_lt s.clock end
    then one_if (is_call p o s (event o s.clock end s.dom)) + calls_in p o end n (step (setting p o true) end s)
    else 0

-- of slot k of the domain, which it begins so
abbrev pub calls_from : Public → Own → ℕ → Local → ℕ
calls_from p o k s = let end = slot_end p.schedule k in calls_in p.hardware o end (end - s.clock) s

-- of all its slots before slot k
unfoldable pub calls_alone : Public → Own → ℕ → List Arrival → ℕ → ℕ
calls_alone p o d came zero = 0
calls_alone p o d came (suc k) =
    let before = calls_alone p o d came k in
    if (entry_of_slot p.schedule k).domain == d
    then before + calls_from p o k (alone_enter p o k (nth_of came (turns p.schedule d k)) (alone_mail p o d came k))
    else before

abbrev pub is_stopped : DomainStatus → Bool
is_stopped (Stopped code pc value) = true
is_stopped _ = false

-- as many as retired, with the calls, which retire nothing, and the one that stopped the domain
abbrev pub AreRuns : List Slot → View → ℕ → Type 0
AreRuns slots v calls = runs_of slots ≡ v.retired + calls + one_if (is_stopped v.status)

abbrev pub RetiredLaw : Type 0
RetiredLaw = (p : Public) (o : Own) (d : ℕ) (came : List Arrival) (k : ℕ)
    → AreRuns (slots_mailed p o d came k) (view_mailed p o d came k) (calls_alone p o d came k)

abbrev pub WholeRetiredLaw : Type 0
WholeRetiredLaw = (i : Image) (d : ℕ) (order : List ℕ) → Runnable i → IsDomain i d → AreHartsOf i order →
    let h = hart_of_domain i d in
    let s = harts i order in
    IsBetween i h s
    → AreRuns (logged i d order) (view_on i d s)
    (calls_alone (public_on i.all h) (own_of i d) d (arrivals d s.world) (slots_of h s))
