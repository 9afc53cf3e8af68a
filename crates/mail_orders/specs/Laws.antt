-- The laws of the order of two harts' switches, and of what is seen by it: the clauses of functions of `laws`.
use Rattle.std.specs.Prelude.{◌≡◌, ◌≢◌, ℕ, suc, ◌+◌, ◌<◌, ◌≤◌, List, ◌++◌}
use Rattle.sched_table.specs.Schedule.{harts_in}
use Rattle.image_check.specs.Image.{Image, own_of}
use Rattle.image_check.specs.Laws.{Runnable}
use Rattle.world_view.specs.Machine.{clock_of}
use Rattle.world_view.specs.View.{view_in}
use Rattle.world_view.specs.Relations.{IsDomain}
use Rattle.world_view.specs.Harts.{Harts, IsOutside, hart_of_domain, slots_of, switches_of, end_on, harts, view_on}
use Rattle.world_view.specs.HartLaws.{AreHartsOf, IsBetween}
use Rattle.world_view.specs.MailLaws.{Leads}
use Rattle.hart_orders.specs.declared.choice.Choice.TheVariants.{LeastClock}
use Rattle.hart_orders.specs.Order.{order_of, ran}
use Rattle.mail_orders.specs.Apart.{longest_in, EndsBefore, ChainApart}
use Rattle.mail_orders.specs.Turns.{ChainTakesTurns}

-- ---- when a hart switches

-- a hart's clock has come to the end of its slot k, and is past it by less than the longest event
pub record IsDue (i : Image) (h k : ℕ) (s : Harts) : Type 0 where
  pub over : end_on i h k ≤ clock_of h s.world
  pub soon : clock_of h s.world < end_on i h k + longest_in i h k

-- so it is after every order of events, where that slot was its last one and it is in none
abbrev pub DueLaw : Type 0
DueLaw = (i : Image) (h k : ℕ) (order : List ℕ) → Runnable i → AreHartsOf i order → h < harts_in i.all.schedule →
    let s = harts i order in
    IsOutside h s → slots_of h s ≡ suc k → IsDue i h k s

-- ---- whose switch comes first, by the least clock, after any of the events

-- the one after the slot that ends before the other by the longest event, whatever runs
abbrev pub TurnsLaw : Type 0
TurnsLaw = (i : Image) (n g k h m : ℕ) (before later : List ℕ) → Runnable i
    → order_of i LeastClock n ≡ before ++ later → g < harts_in i.all.schedule → h < harts_in i.all.schedule
    → suc k < n → EndsBefore i g k h m
    → suc (suc m) ≤ switches_of h (harts i before) → suc (suc k) ≤ switches_of g (harts i before)

-- and each hart's boot comes before any switch after a slot
abbrev pub BootsLaw : Type 0
BootsLaw = (i : Image) (n g h : ℕ) (before later : List ℕ) → Runnable i
    → order_of i LeastClock n ≡ before ++ later → g < harts_in i.all.schedule → h < harts_in i.all.schedule
    → 2 ≤ switches_of h (harts i before) → 1 ≤ switches_of g (harts i before)

-- ---- what is seen of a domain, in images that agree on it and on all from whom a chain of boxes leads to it

-- in two orders in which the harts of each box of the chain take the same turns
abbrev pub SameTurnsLaw : Type 0
SameTurnsLaw = (i j : Image) (d : ℕ) (one two : List ℕ) → Runnable i → Runnable j → IsDomain i d → i.all ≡ j.all
    → ((e : ℕ) → Leads i d e → own_of i e ≡ own_of j e) → AreHartsOf i one → AreHartsOf j two
    → ChainTakesTurns i j d one two →
    let h = hart_of_domain i d in
    let s = harts i one in
    let t = harts j two in
    slots_of h s ≡ slots_of h t → IsBetween i h s → IsBetween j h t → view_on i d s ≡ view_on j d t

-- so it is in any two orders, where all of them are on its hart
abbrev pub OwnHartLaw : Type 0
OwnHartLaw = (i j : Image) (d : ℕ) (one two : List ℕ) → Runnable i → Runnable j → IsDomain i d → i.all ≡ j.all
    → ((e : ℕ) → Leads i d e → own_of i e ≡ own_of j e) → AreHartsOf i one → AreHartsOf j two
    → ((e : ℕ) → Leads i d e → hart_of_domain i e ≡ hart_of_domain i d) →
    let h = hart_of_domain i d in
    let s = harts i one in
    let t = harts j two in
    slots_of h s ≡ slots_of h t → IsBetween i h s → IsBetween j h t → view_on i d s ≡ view_on j d t

-- and by the least clock, where the ends of slots lie apart: in both, since the longest events of other domains may differ
abbrev pub ApartLaw : Type 0
ApartLaw = (i j : Image) (d n : ℕ) → Runnable i → Runnable j → IsDomain i d → i.all ≡ j.all
    → ((e : ℕ) → Leads i d e → own_of i e ≡ own_of j e) → ChainApart i d n → ChainApart j d n
    → view_in i d (ran i LeastClock n) ≡ view_in j d (ran j LeastClock n)

-- so nothing comes back: what is seen of a domain is the same whatever another is from which no chain leads to it
abbrev pub NothingBackLaw : Type 0
NothingBackLaw = (i j : Image) (d r n : ℕ) → Runnable i → Runnable j → IsDomain i d → i.all ≡ j.all
    → ((e : ℕ) → e ≢ r → own_of i e ≡ own_of j e) → (Leads i d r → ⊥) → ChainApart i d n → ChainApart j d n
    → view_in i d (ran i LeastClock n) ≡ view_in j d (ran j LeastClock n)
