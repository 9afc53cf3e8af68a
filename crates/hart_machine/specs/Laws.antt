-- The laws of an image's harts slot by slot; they are the clauses of functions of `laws`.
use Rattle.std.specs.Prelude.{◌≡◌, ℕ, zero, suc, ◌<◌, List, [], ◌∷◌, ◌++◌, replicate}
use Rattle.event_orders.specs.Orders.{Ran, slot_events, run_slot, by_events, by_slots, cycles_left, Counted, owed_of, all_counted, drawn_slots}
use Rattle.event_orders.specs.Laws as laws
use Rattle.event_orders.specs.Laws.{AreBetween, AreThrough, none_owed}
use Rattle.l2_colour.specs.Colours.{colour_of_set}
use Rattle.mem_system.specs.Sharing.{kept_at}
use Rattle.image_check.specs.Image.{Image}
use Rattle.image_check.specs.Laws.{Runnable}
use Rattle.sched_table.specs.Schedule.{harts_in}
use Rattle.world_view.specs.Cost.{hierarchy}
use Rattle.world_view.specs.Machine.{World, clock_of}
use Rattle.world_view.specs.Relations.{IsDomain}
use Rattle.world_view.specs.View.{view_in}
use Rattle.world_view.specs.Harts.{Harts, IsOutside, slots_of, harts}
use Rattle.world_view.specs.HartLaws.{AreHartsOf, IsBetween}
use Rattle.seed_words.specs.Words.{seeded, word}
use Rattle.hart_orders.specs.declared.choice.Choice.TheVariants.{LeastClock, Drawn}
use Rattle.hart_orders.specs.Order.{ran}
use Rattle.hart_machine.specs.HartMachine.{machine_of}

-- ---- one slot

-- events of a hart alone with which its next slot has ended, and no later one has begun, are its switch and the slot's own
pub record IsItsSlot (i : Image) (h events : ℕ) (s later : Harts) : Type 0 where
  pub count : events ≡ suc (slot_events (machine_of i) h s)
  pub comes_to : later ≡ run_slot (machine_of i) h s

abbrev pub OneSlotLaw : Type 0
OneSlotLaw =
    (i : Image) (h events : ℕ) (order : List ℕ) → Runnable i → AreHartsOf i order → h < harts_in i.all.schedule →
    let s = harts i order in
    let later = harts i (order ++ replicate events h) in
    IsOutside h s → IsBetween i h later → slots_of h later ≡ suc (slots_of h s) → IsItsSlot i h events s later

-- ---- by the least clock, from the first event until each hart has had n slots

-- so many events are enough
abbrev pub enough : Image → ℕ → ℕ
enough i n = cycles_left (machine_of i) n (harts i []) (harts_in i.all.schedule)

abbrev pub event_by_event : Image → ℕ → Ran Harts
event_by_event i n = by_events (machine_of i) n (enough i n) (harts i [])

abbrev pub slot_by_slot : Image → ℕ → Ran Harts
slot_by_slot i n = by_slots (machine_of i) n (enough i n) (harts i [])

-- the same is seen of each domain, switches took the same, and the same came with them, in their order, and each hart's clock
-- is the same
pub record SameReport (i : Image) (w v : World) : Type 0 where
  pub seen : (d : ℕ) → IsDomain i d → view_in i d w ≡ view_in i d v
  pub used : w.used ≡ v.used
  pub came : w.came ≡ v.came
  pub clocks : (h : ℕ) → h < harts_in i.all.schedule → clock_of h w ≡ clock_of h v

-- event by event a run comes to where the order of the least clock leads
abbrev pub RanLaw : Type 0
RanLaw = (i : Image) (n : ℕ) → ran i LeastClock n ≡ (event_by_event i n).world.world

-- there each hart has had its slots
abbrev pub ThroughLaw : Type 0
ThroughLaw = (i : Image) (n : ℕ) → Runnable i → AreThrough (machine_of i) n (event_by_event i n).world

-- slot by slot the report is the same, and so are the switches: at which clock, and of which hart each was
abbrev pub SlotBySlotLaw : Type 0
SlotBySlotLaw = (i : Image) (n : ℕ) → Runnable i →
    let slow = event_by_event i n in
    let fast = slot_by_slot i n in
    SameReport i slow.world.world fast.world.world × (slow.switches ≡ fast.switches)

-- so it is what the order of the least clock leads to
abbrev pub SlotsLaw : Type 0
SlotsLaw = (i : Image) (n : ℕ) → Runnable i → SameReport i (ran i LeastClock n) (slot_by_slot i n).world.world

-- that order is by clock, and then by the hart's number
abbrev pub SwitchOrderLaw : Type 0
SwitchOrderLaw = (i : Image) (n : ℕ) → Runnable i → laws.AreSorted (slot_by_slot i n).switches

-- ---- in any other order of events

-- each slot is run whole when its switch comes, and its events are counted off: where no hart is in a slot the
-- report is the same, and no event is owed
abbrev pub CountedOffLaw : Type 0
CountedOffLaw = (i : Image) (order : List ℕ) → Runnable i → AreHartsOf i order
    → AreBetween (machine_of i) (harts i order) →
    let s = all_counted (machine_of i) order (none_owed (harts i [])) in
    SameReport i (harts i order).world s.world.world × ((h : ℕ) → h < harts_in i.all.schedule → owed_of h s ≡ 0)

-- ---- in the order that a seed draws

-- so many words of a seed, from this one on
unfoldable pub words_from : ℕ → ℕ → ℕ → List ℕ
words_from seed j zero = []
words_from seed j (suc f) = word (seeded seed) j ∷ words_from seed (suc j) f

-- from the first event until each hart has had n slots, each of them run whole when its hart is first drawn, and its events
-- counted off by later draws
abbrev pub drawn_slot_by_slot : Image → ℕ → ℕ → Counted Harts
drawn_slot_by_slot i seed n = drawn_slots (machine_of i) n (words_from seed 0 (enough i n)) (none_owed (harts i []))

-- the report is the one of the order that the seed draws event by event, and no event is owed
abbrev pub DrawnBySlotsLaw : Type 0
DrawnBySlotsLaw = (i : Image) (seed n : ℕ) → Runnable i →
    let s = drawn_slot_by_slot i seed n in
    SameReport i (ran i (Drawn seed) n) s.world.world × ((h : ℕ) → h < harts_in i.all.schedule → owed_of h s ≡ 0)

-- ---- of each part: a hart's core and clock, its domains' states, frames, sides of the boxes and sets, what switches took, what
-- came with them, what waits in boxes, what is nobody's, and the places of the second level's sets of the kernel's colour, if
-- not the policy's lists of these

abbrev pub PartsLaw : Type 0
PartsLaw = (i : Image) → Runnable i → laws.SlotsLaw (machine_of i)

abbrev pub AnyOrderPartsLaw : Type 0
AnyOrderPartsLaw = (i : Image) → Runnable i → laws.AnyOrderLaw (machine_of i)

abbrev pub DrawnPartsLaw : Type 0
DrawnPartsLaw = (i : Image) → Runnable i → laws.DrawnLaw (machine_of i)

-- so by the least clock, slot by slot, each way of each of the kernel's sets keeps what it does event by event
abbrev pub KernelPlacesLaw : Type 0
KernelPlacesLaw = (i : Image) (n s way : ℕ) → Runnable i →
    let h = hierarchy i.all.hardware in
    colour_of_set h.line_size s ≡ 0
    → kept_at h (event_by_event i n).world.world.l2 s way ≡ kept_at h (slot_by_slot i n).world.world.l2 s way

-- two events of different harts may change places, where one of them is no switch
abbrev pub HartsCommuteLaw : Type 0
HartsCommuteLaw = (i : Image) → Runnable i → laws.CommuteLaw (machine_of i)

abbrev pub HartsPassLaw : Type 0
HartsPassLaw = (i : Image) → Runnable i → laws.PassLaw (machine_of i)
