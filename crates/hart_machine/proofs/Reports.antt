-- Slot by slot an image's harts report what they report event by event.
use Rattle.std.proofs.Common.{◌≡◌, ℕ, ◌<◌, List, [], ◌∷◌, Option, None, get_or, ap, sym, refl, subst, arith}
use Rattle.std.proofs.lemmas.List.Elements.{All-nil}
use Rattle.event_orders.specs.Orders as orders
use Rattle.event_orders.specs.Orders.{all_counted}
use Rattle.event_orders.specs.Laws.{Alike, AreBetween, SameEnd, none_owed}
use Rattle.event_orders.proofs.Ends.{ends_law}
use Rattle.event_orders.proofs.Slots.{slots_law}
use Rattle.event_orders.proofs.Sorted.{sorted_law}
use Rattle.event_orders.proofs.Drawn.{counted_law}
use Rattle.set_cache.specs.declared.KeptLine.{KeptLine}
use Rattle.image_check.specs.Image.{Image, own_of}
use Rattle.image_check.specs.Laws.{Runnable}
use Rattle.sched_table.specs.Schedule.{harts_in}
use Rattle.world_view.specs.Machine.{World, Hart}
use Rattle.world_view.specs.Harts.{Harts, Progress, hart_of_domain, next, after, harts, after_by, harts_by}
use Rattle.world_view.proofs.runs.WholeLaws.{same_view}
use Rattle.world_view.proofs.harts.Runs.{home}
use Rattle.world_view.proofs.harts.Isolation.{at_first}
use Rattle.hart_machine.specs.HartMachine.{IsReached, machine_of}
use Rattle.hart_machine.specs.Laws.{SameReport, enough, event_by_event, slot_by_slot, ThroughLaw, SlotBySlotLaw, SlotsLaw, SwitchOrderLaw, CountedOffLaw, KernelPlacesLaw}
use Rattle.hart_machine.proofs.IsMachine.{is_machine}
use Rattle.hart_machine.proofs.LeastClock.{ran_law}

module _ (i : Image) (r : Runnable i) where
  -- worlds that are equal in each part
  pub same_report : (s t : Harts) → Alike (machine_of i) s t → SameReport i s.world t.world
  same_report s t a = record {
    seen = λ d id.
        let same = (a.each (hart_of_domain i d) (home i r d)).parts.domains d id refl in
        same_view i.all.hardware (own_of i d) _ _ _ _ same.dom same.part.frames;
    used = a.shared.used;
    came = a.shared.came;
    clocks = λ h there. ap (λ (x : Hart). x.clock) (a.each h there).parts.hart;
  }

  -- before the first event
  pub first_reached : IsReached i (harts i [])
  first_reached =
      record { order = []; of_harts = All-nil (λ (g : ℕ). g < harts_in i.all.schedule); comes_to = refl }

  pub first_between : AreBetween (machine_of i) (harts i [])
  first_between h there = ap (λ (x : Progress). x.inside) (at_first i r h)

-- an order's events are the same by both names
after_is : (i : Image) (order : List ℕ) (s : Harts) → orders.after (machine_of i) order s ≡ after i order s
unfolding orders.after after_by
after_is i [] s = refl
after_is i (h ∷ hs) s = after_is i hs (next i h s)

harts_are : (i : Image) (order : List ℕ) → orders.after (machine_of i) order (harts i []) ≡ harts i order
unfolding harts_by after_by
harts_are i order = after_is i order (harts i [])

pub through : ThroughLaw
through i n r = ends_law (machine_of i) (is_machine i r) n (enough i n) (harts i []) (first_reached i r) (omega arith)

-- each part is the same, and so are the switches
both_ways : (i : Image) (n : ℕ) → Runnable i →
    let slow = event_by_event i n in
    let fast = slot_by_slot i n in
    Alike (machine_of i) slow.world fast.world × (slow.switches ≡ fast.switches)
both_ways i n r =
    slots_law (machine_of i) (is_machine i r) n (enough i n) (harts i []) (first_reached i r) (first_between i r) (through i n r)

pub slot_by_slot_law : SlotBySlotLaw
slot_by_slot_law i n r =
    let both = both_ways i n r in
    (same_report i r (event_by_event i n).world (slot_by_slot i n).world both.0, both.1)

pub kernel_places : KernelPlacesLaw
kernel_places i n s way r kernel =
    ap (λ (places : List (Option KeptLine)). get_or places way None) ((both_ways i n r).0.shared.nobodys.kernels s kernel)

pub slots : SlotsLaw
slots i n r =
    subst (λ (w : World). SameReport i w (slot_by_slot i n).world.world) (sym (ran_law i n)) (slot_by_slot_law i n r).0

pub switch_order : SwitchOrderLaw
switch_order i n r =
    sorted_law (machine_of i) (is_machine i r) n (enough i n) (harts i []) (first_reached i r) (first_between i r)

pub counted_off : CountedOffLaw
counted_off i order r below between =
    let m = machine_of i in
    let s = all_counted m order (none_owed (harts i [])) in
    let end : SameEnd m (harts i order) s =
    subst (λ (w : Harts). SameEnd m w s) (harts_are i order)
    (counted_law m (is_machine i r) order (harts i []) below (first_reached i r) (first_between i r)
    (subst (AreBetween m) (sym (harts_are i order)) between)) in
    (same_report i r (harts i order) s.world end.alike, end.paid)
