-- Two harts, step by step: both runs, and what they need not agree in.
use Rattle.std.specs.Prelude.{◌≡◌, ◌+◌, ◌*◌, nat_eq, if◌then◌else◌, false, [], ◌∷◌, refl}
use Rattle.tp_base.specs.Table.{empty, at, put}
use Rattle.event_orders.specs.Orders.{Ran, run, count_events, run_slot, first, by_events, by_slots}
use Rattle.event_orders.specs.Small.{World, Small, hart_of, work_on, turn_on, next, machine, opening}

-- slots of ten cycles, of which the second hart's begin a cycle later; a switch brings its hart what the last one left
abbrev pub two : Small
two = record {
  count = 2;
  start = λ h k. 5 + h + 20 * k;
  end = λ h k. 15 + h + 20 * k;
  most = 3;
  work = λ h k x. x + x + 1;
  cycles = λ h k x. if nat_eq h 0 then 2 else 3;
  turn = λ h k x shared. x + shared;
  leaves = λ h k x shared. x + h + 1;
  takes = λ h k x shared. 1 + shared;
  mark = λ h marks. marks + marks + h;
}

unfoldable pub slow : Ran World
slow = by_events (machine two) 2 60 opening

unfoldable pub fast : Ran World
fast = by_slots (machine two) 2 60 opening

-- both have come to their end
slots : ((hart_of 0 slow.world).slots ∷ (hart_of 1 slow.world).slots ∷ []) ≡ 2 ∷ 2 ∷ []
unfolding slow by_events first next work_on turn_on at put empty
slots = refl

-- by the same switches: at each the clock of its hart, and which it was
switches : slow.switches ≡ (0, 0) ∷ (0, 1) ∷ (15, 0) ∷ (18, 1) ∷ []
unfolding slow by_events first next work_on turn_on at put empty
switches = refl

same_switches : fast.switches ≡ (0, 0) ∷ (0, 1) ∷ (15, 0) ∷ (18, 1) ∷ []
unfolding fast by_slots run_slot run count_events first next work_on turn_on at put empty
same_switches = refl

-- what each hart has is the same, and what switches share
same : (hart_of 0 slow.world ∷ hart_of 1 slow.world ∷ []) ≡ (hart_of 0 fast.world ∷ hart_of 1 fast.world ∷ [])
unfolding slow fast by_events by_slots run_slot run count_events first next work_on turn_on at put empty
same = refl

same_shared : slow.world.shared ≡ fast.world.shared
unfolding slow fast by_events by_slots run_slot run count_events first next work_on turn_on at put empty
same_shared = refl

-- but what any event writes and none reads goes by the order of events, and is another
marks_differ : nat_eq slow.world.marks fast.world.marks ≡ false
unfolding slow fast by_events by_slots run_slot run count_events first next work_on turn_on at put empty
marks_differ = refl
