-- The laws of several harts, for every order of their events; they are the clauses of functions of `laws`.
use Rattle.std.specs.Prelude.{◌≡◌, ◌≢◌, ℕ, ◌+◌, ◌<◌, ◌≤◌, ◌==◌, ◌++◌, true, false, List, [], ◌∷◌, length}
use Rattle.std.specs.List.{All, filter}
use Rattle.image_check.specs.Image.{Image, own_of}
use Rattle.image_check.specs.Laws.{Runnable}
use Rattle.sched_table.specs.Schedule.{entry_in, harts_in}
use Rattle.world_view.specs.Mail.{turns}
use Rattle.world_view.specs.Machine.{dom_of, part_of, hart_of, clock_of, arrivals}
use Rattle.world_view.specs.Used.{largest_of, count_of}
use Rattle.world_view.specs.Relations.{IsDomain, HasNoMail, SamePart, AllWithinPads}
use Rattle.mail_slots.specs.Sides.{Arrival}
use Rattle.world_view.specs.View.{view_mailed}
use Rattle.world_view.specs.Harts.{Harts, IsOnOneHart, public_on, start_on, hart_of_domain, progress_of, slots_of, switches_of, next, harts, view_on, view_mailed_on, view_alone_on}

-- each of these numbers is of a hart of the image
abbrev pub AreHartsOf : Image → List ℕ → Type 0
AreHartsOf i order = All (λ h. h < harts_in i.all.schedule) order

-- the hart has not begun its next slot: it is before its boot, or between two slots
abbrev pub IsBetween : Image → ℕ → Harts → Type 0
IsBetween i h s = clock_of h s.world < start_on i h (slots_of h s)

-- whatever the order of events, what is seen of a domain, where its hart has not begun its next slot, is what is seen of it
-- alone after as many slots of that hart, with what came in boxes as they began
abbrev pub HartMailLaw : Type 0
HartMailLaw = (i : Image) (d : ℕ) (order : List ℕ) → Runnable i → IsDomain i d → AreHartsOf i order →
    let h = hart_of_domain i d in
    let s = harts i order in
    IsBetween i h s → view_on i d s ≡ view_mailed_on i d (arrivals d s.world) (slots_of h s)

-- that has an item for each slot of its own
abbrev pub ArrivalsLaw : Type 0
ArrivalsLaw = (i : Image) (d : ℕ) (order : List ℕ) → Runnable i → IsDomain i d → AreHartsOf i order →
    let h = hart_of_domain i d in
    let s = harts i order in
    IsBetween i h s → length (arrivals d s.world) ≡ turns (public_on i.all h).schedule d (slots_of h s)

-- where no box leads to it, alone with nothing that comes
abbrev pub HartIsolationLaw : Type 0
HartIsolationLaw =
    (i : Image) (d : ℕ) (order : List ℕ) → Runnable i → IsDomain i d → HasNoMail i d → AreHartsOf i order →
    let h = hart_of_domain i d in
    let s = harts i order in
    IsBetween i h s → view_on i d s ≡ view_alone_on i d (slots_of h s)

-- so two orders after which its hart has had as many slots leave it the same
abbrev pub TwoOrdersLaw : Type 0
TwoOrdersLaw = (i : Image) (d : ℕ) (one two : List ℕ) → Runnable i → IsDomain i d → HasNoMail i d
    → AreHartsOf i one → AreHartsOf i two →
    let h = hart_of_domain i d in
    let s = harts i one in
    let t = harts i two in
    slots_of h s ≡ slots_of h t → IsBetween i h s → IsBetween i h t → view_on i d s ≡ view_on i d t

-- no switch of any hart overruns its pad
abbrev pub HartPadLaw : Type 0
HartPadLaw = (i : Image) (order : List ℕ) → Runnable i → AreHartsOf i order
    → AllWithinPads i.all.schedule (harts i order).world.used

abbrev pub HartLargestLaw : Type 0
HartLargestLaw = (i : Image) (order : List ℕ) (e : ℕ) → Runnable i → AreHartsOf i order
    → largest_of e (harts i order).world.used ≤ (entry_in i.all.schedule e).pad

-- an entry has no more switches than its hart
abbrev pub HartCountLaw : Type 0
HartCountLaw =
    (i : Image) (order : List ℕ) (e : ℕ) → Runnable i → AreHartsOf i order → e < length i.all.schedule →
    let s = harts i order in
    count_of e s.world.used ≤ switches_of (entry_in i.all.schedule e).hart s

-- in these states a hart's event leaves a domain of another: its own state, its frames and its sets, and its hart
pub record LeftAlone (i : Image) (d : ℕ) (later s : Harts) : Type 0 where
  pub dom : dom_of later.world d ≡ dom_of s.world d
  pub part : SamePart i.all.hardware (own_of i d) (part_of (hart_of_domain i d) d later.world)
      (part_of (hart_of_domain i d) d s.world)
  pub hart : hart_of (hart_of_domain i d) later.world ≡ hart_of (hart_of_domain i d) s.world
  pub progress : progress_of (hart_of_domain i d) later ≡ progress_of (hart_of_domain i d) s

abbrev pub OtherHartsLaw : Type 0
OtherHartsLaw = (i : Image) (d h : ℕ) (order : List ℕ) → Runnable i → IsDomain i d → AreHartsOf i order
    → h < harts_in i.all.schedule → h ≢ hart_of_domain i d
    → LeftAlone i d (next i h (harts i order)) (harts i order)

-- one event more
abbrev pub NextLaw : Type 0
NextLaw = (i : Image) (order : List ℕ) (h : ℕ) → harts i (order ++ h ∷ []) ≡ next i h (harts i order)

-- ---- when a hart's slots begin

-- a hart that isn't in a slot has not begun its next one
abbrev pub HartBetweenLaw : Type 0
HartBetweenLaw =
    (i : Image) (h : ℕ) (order : List ℕ) → Runnable i → AreHartsOf i order → h < harts_in i.all.schedule →
    let s = harts i order in
    (progress_of h s).inside ≡ false → IsBetween i h s

-- and one that is in a slot has begun it
abbrev pub HartBegunLaw : Type 0
HartBegunLaw =
    (i : Image) (h : ℕ) (order : List ℕ) → Runnable i → AreHartsOf i order → h < harts_in i.all.schedule →
    let s = harts i order in
    (progress_of h s).inside ≡ true → start_on i h (slots_of h s) ≤ clock_of h s.world

-- each of its slots begins at exactly its start
abbrev pub HartStartLaw : Type 0
HartStartLaw =
    (i : Image) (h : ℕ) (order : List ℕ) → Runnable i → AreHartsOf i order → h < harts_in i.all.schedule →
    let s = harts i order in
    (progress_of h s).inside ≡ false → clock_of h (next i h s).world ≡ start_on i h (slots_of h s)

-- ---- what an event of a hart adds

-- a cycle or more to its clock
abbrev pub HartRiseLaw : Type 0
HartRiseLaw =
    (i : Image) (h : ℕ) (order : List ℕ) → Runnable i → AreHartsOf i order → h < harts_in i.all.schedule →
    let s = harts i order in
    clock_of h s.world < clock_of h (next i h s).world

-- the later state has as many slots of the hart, or one more
pub record OneMoreAtMost (h : ℕ) (later s : Harts) : Type 0 where
  pub least : slots_of h s ≤ slots_of h later
  pub most : slots_of h later ≤ slots_of h s + 1

abbrev pub HartSlotsLaw : Type 0
HartSlotsLaw = (i : Image) (h : ℕ) (s : Harts) → OneMoreAtMost h (next i h s) s

-- another hart is as it was, and as far
pub record HartStays (g : ℕ) (later s : Harts) : Type 0 where
  pub hart : hart_of g later.world ≡ hart_of g s.world
  pub progress : progress_of g later ≡ progress_of g s

abbrev pub HartStaysLaw : Type 0
HartStaysLaw = (i : Image) (g h : ℕ) (s : Harts) → g ≢ h → HartStays g (next i h s) s

-- ---- an image of one hart

-- that hart has all entries, and so every domain is alone as it is by all of them
pub record HasOneHart (i : Image) : Type 0 where
  pub entries : public_on i.all 0 ≡ i.all
  pub home : (d : ℕ) → hart_of_domain i d ≡ 0
  pub mailed : (d : ℕ) (came : List Arrival) (n : ℕ) → view_mailed_on i d came n ≡ view_mailed i.all (own_of i d) d came n

abbrev pub OneHartLaw : Type 0
OneHartLaw = (i : Image) → IsOnOneHart i → HasOneHart i

-- ---- by the number of its own events

-- how many of the events are a hart's
abbrev pub events_of : ℕ → List ℕ → ℕ
events_of h order = length (filter (λ g. g == h) order)

-- in both states a hart is as far, and its clock stands at the same
pub record AsFar (h : ℕ) (s t : Harts) : Type 0 where
  pub progress : progress_of h s ≡ progress_of h t
  pub clock : clock_of h s.world ≡ clock_of h t.world

-- no box leads to a domain of a hart
abbrev pub HasNoMailOn : Image → ℕ → Type 0
HasNoMailOn i h = (d : ℕ) → hart_of_domain i d ≡ h → HasNoMail i d

-- how far such a hart is goes by the number of its own events, whatever the others' are and in whatever order they come
abbrev pub EventsLaw : Type 0
EventsLaw = (i : Image) (h : ℕ) (one two : List ℕ) → Runnable i → AreHartsOf i one → AreHartsOf i two
    → h < harts_in i.all.schedule → HasNoMailOn i h
    → events_of h one ≡ events_of h two → AsFar h (harts i one) (harts i two)

-- and so does what is seen of a domain, at each event of its hart
abbrev pub SameEventsLaw : Type 0
SameEventsLaw =
    (i : Image) (d : ℕ) (one two : List ℕ) → Runnable i → IsDomain i d → AreHartsOf i one → AreHartsOf i two →
    let h = hart_of_domain i d in
    HasNoMailOn i h → events_of h one ≡ events_of h two → view_on i d (harts i one) ≡ view_on i d (harts i two)
