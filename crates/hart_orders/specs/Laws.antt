-- The laws of the order in which harts have their events; they are the clauses of functions of `laws`.
use Rattle.std.specs.Prelude.{◌≡◌, ◌≢◌, ◌⊎◌, ℕ, ◌<◌, ◌≤◌, List, ◌∷◌, ◌++◌, length, Some, None}
use Rattle.sched_table.specs.Schedule.{entry_in, harts_in}
use Rattle.image_check.specs.Image.{Image}
use Rattle.image_check.specs.Laws.{Runnable}
use Rattle.world_view.specs.Machine.{clock_of, whole, arrivals}
use Rattle.world_view.specs.Used.{largest_of}
use Rattle.world_view.specs.View.{view_in}
use Rattle.world_view.specs.Relations.{IsDomain, HasNoMail, AllWithinPads}
use Rattle.world_view.specs.Harts.{Harts, IsOnOneHart, slots_of, harts, view_mailed_on, view_alone_on}
use Rattle.world_view.specs.HartLaws.{AreHartsOf, IsBetween}
use Rattle.world_view.specs.Laws.{SameWorld}
use Rattle.hart_orders.specs.Order.{next_hart, order_of, ran}
use Rattle.hart_orders.specs.declared.choice.Choice.{Choice}
use Rattle.hart_orders.specs.declared.choice.Choice.TheVariants.{LeastClock}

-- ---- the order is the choice's

-- each event is of the hart that is chosen after those before it
abbrev pub EachChosenLaw : Type 0
EachChosenLaw =
    (i : Image) (c : Choice) (n h : ℕ) (before later : List ℕ) → order_of i c n ≡ before ++ h ∷ later
    → next_hart i c n (length before) (harts i before) ≡ Some h

-- who is chosen is one of the image's harts, and has slots left
abbrev pub HasLeftLaw : Type 0
HasLeftLaw = (i : Image) (c : Choice) (n j h : ℕ) (s : Harts) → next_hart i c n j s ≡ Some h
    → (h < harts_in i.all.schedule) × (slots_of h s < n)

-- somebody is, while a hart has slots left
abbrev pub SomebodyLaw : Type 0
SomebodyLaw =
    (i : Image) (c : Choice) (n j h : ℕ) (s : Harts) → h < harts_in i.all.schedule → slots_of h s < n
    → next_hart i c n j s ≢ None

-- by clocks: no other that has slots left has a lower clock, nor the same and a lower number
abbrev pub LeastLaw : Type 0
LeastLaw = (i : Image) (n j h g : ℕ) (s : Harts) → next_hart i LeastClock n j s ≡ Some h
    → g < harts_in i.all.schedule → slots_of g s < n
    → (clock_of h s.world < clock_of g s.world) ⊎ ((clock_of h s.world ≡ clock_of g s.world) × (h ≤ g))

-- ---- where it ends

abbrev pub HartsLaw : Type 0
HartsLaw = (i : Image) (c : Choice) (n : ℕ) → AreHartsOf i (order_of i c n)

-- each hart has had n slots, and has not begun the next
abbrev pub ThroughLaw : Type 0
ThroughLaw = (i : Image) (c : Choice) (n h : ℕ) → Runnable i → h < harts_in i.all.schedule →
    let s = harts i (order_of i c n) in
    (slots_of h s ≡ n) × IsBetween i h s

-- ---- what is seen then

-- whatever the choice, of each domain what is seen of it alone, by the entries of its hart, with what came in boxes as its
-- slots began
abbrev pub ChoiceMailLaw : Type 0
ChoiceMailLaw = (i : Image) (c : Choice) (n d : ℕ) → Runnable i → IsDomain i d
    → view_in i d (ran i c n) ≡ view_mailed_on i d (arrivals d (ran i c n)) n

-- where no box leads to it, alone with nothing that comes
abbrev pub ChoiceLaw : Type 0
ChoiceLaw = (i : Image) (c : Choice) (n d : ℕ) → Runnable i → IsDomain i d → HasNoMail i d
    → view_in i d (ran i c n) ≡ view_alone_on i d n

-- and no switch overran its pad
abbrev pub ChoicePadLaw : Type 0
ChoicePadLaw = (i : Image) (c : Choice) (n : ℕ) → Runnable i → AllWithinPads i.all.schedule (ran i c n).used

abbrev pub ChoiceLargestLaw : Type 0
ChoiceLargestLaw = (i : Image) (c : Choice) (n e : ℕ) → Runnable i
    → largest_of e (ran i c n).used ≤ (entry_in i.all.schedule e).pad

-- ---- one hart

-- whatever the choice, the machine is the one that goes from slot to slot
abbrev pub OneHartLaw : Type 0
OneHartLaw = (i : Image) (c : Choice) (n : ℕ) → Runnable i → IsOnOneHart i → SameWorld (whole i n) (ran i c n)
