-- The laws of the machine over its definitions, each as a type; they are the clauses of the functions of `laws`.
use Rattle.std.specs.Prelude.{◌≡◌, ◌≢◌, ℕ, true, false, ◌+◌, ◌/◌, ◌%◌, ◌<◌, ◌≤◌, ◌^◌, ◌⊎◌, List, [], ◌∷◌, ◌++◌, length, Option, Some, None, Result, Ok, Err, take, All}
use Rattle.hardware_check.specs.Hardware.{Hardware, IsHardware, colours_of}
use Rattle.image_check.specs.Own.{Own}
use Rattle.sv32_walk.specs.declared.access.Access.{Access}
use Rattle.sv32_walk.specs.declared.access.WalkFault.{WalkFault}
use Rattle.sv32_walk.specs.declared.access.WalkFault.TheVariants as fault
use Rattle.sv32_walk.specs.Walk.{walk}
use Rattle.sv32_walk.specs.PageTableEntry.{ppn, rights_permit, leaf_word}
use Rattle.image_check.specs.Image.{Image, own_of}
use Rattle.phys_mem.specs.Mem.{Mem, word}
use Rattle.image_check.specs.Pages.{frames_in}
use Rattle.world_view.specs.Frames.{own_frame, pool, pool_frame, root_of, page_frame, clone_frames, first_tables, page_frames, free_frames}
use Rattle.world_view.specs.Opening.{rights_in}
use Rattle.sched_table.specs.Schedule.{outgoing, harts_in}
use Rattle.mem_system.specs.Cost.{Touch, Caches, at_no_cost, and_then, touched_all}
use Rattle.mem_system.specs.Operations as operations
use Rattle.mem_system.specs.Sharing.{kept_at}
use Rattle.world_view.specs.Cost.{hierarchy, region}
use Rattle.call_table.specs.Laws.{found_at}
use Rattle.call_table.specs.Rights.{MayReach}
use Rattle.world_view.specs.Kernel.{estate, layout, frames_for_good}
use Rattle.guards.specs.declared.Guard.{Guard}
use Rattle.world_view.specs.Machine.{caches_of, clock_of, hart_of, setting, Local, World, step, dom_of, part_of, with_part, clone_of, leave_part, enter_part, prefetch_part, flush_part, switch_work, guards_of, whole_by, alone_enter, alone_out}
use Rattle.image_check.specs.Laws.{Runnable}
use Rattle.mail_slots.specs.Sides.{Arrival, arrival}
use Rattle.world_view.specs.Mail.{left_boxes}
use Rattle.world_view.specs.Relations.{IsDomain, HasNoMail, IsOwnFrame, Agree, SameSets, SamePart, Resident, KeepsSharedAlone, OwnDirty, KernelIsClean, IsKernel, AreParties, IsForGood, HasFacts, HasRights, ReachesOwn, Beside, Within, Apiece, Untouched, InTime}
use Rattle.world_view.specs.Harts.{Harts, IsOnOneHart, IsInSlot, IsOutside, public_on, image_on, domain_in, domain_on, owner_on, start_on, slot_end_on, hart_of_domain, slots_of, switches_of, next, harts, harts_by, view_on}
use Rattle.world_view.specs.HartLaws.{AreHartsOf, IsBetween}

-- ---- isolation

-- where no box leads to a domain, what is seen of it goes by what all may know and by its own part, whatever the other domains
-- are and whatever the order of events: in two runs after which its hart has had as many slots, and has not begun the next, it is
-- the same
abbrev pub TwoRunLaw : Type 0
TwoRunLaw =
    (i j : Image) (d : ℕ) (one two : List ℕ) → Runnable i → Runnable j → IsDomain i d → HasNoMail i d → Agree i j d
    → AreHartsOf i one → AreHartsOf j two →
    let h = hart_of_domain i d in
    let s = harts i one in
    let t = harts j two in
    slots_of h s ≡ slots_of h t → IsBetween i h s → IsBetween j h t → view_on i d s ≡ view_on j d t

-- ---- one hart

-- equal in each part: each domain's state, memory and boxes, the caches and the clock of hart 0, and what switches took and what
-- came in boxes, in their order
pub record SameWorld (w v : World) : Type 0 where
  pub doms : (d : ℕ) → dom_of w d ≡ dom_of v d
  pub storage : w.storage ≡ v.storage
  pub caches : caches_of 0 w ≡ caches_of 0 v
  pub clock : clock_of 0 w ≡ clock_of 0 v
  pub used : w.used ≡ v.used
  pub came : w.came ≡ v.came

-- where an image has one hart, the machine that goes from slot to slot is the one that goes from event to event, with all
-- guards on and with any one off
abbrev pub WholeLaw : Type 0
WholeLaw =
    (off : Option Guard) (i : Image) (order : List ℕ) → Runnable i → IsOnOneHart i → AreHartsOf i order →
    let s = harts_by off i order in
    IsOutside 0 s → SameWorld (whole_by (guards_of off i) i (slots_of 0 s)) s.world

-- ---- at each moment

-- on each hart of each accepted image, after every order of the harts' events
abbrev pub OnEachHart : (Image → ℕ → Harts → Type 0) → Type 0
OnEachHart P = (i : Image) (h : ℕ) (order : List ℕ) → Runnable i → AreHartsOf i order → h < harts_in i.all.schedule
    → P i h (harts i order)

-- of each domain
abbrev pub OfEachDomain : (Image → ℕ → Harts → Type 0) → Type 0
OfEachDomain P = (i : Image) (d : ℕ) (order : List ℕ) → Runnable i → IsDomain i d → AreHartsOf i order
    → P i d (harts i order)

-- ---- time

-- between two slots of a hart its clock is past the end of the last one by less than the largest step, and its caches are
-- as a switch wants them
abbrev pub InTimeLaw : Type 0
InTimeLaw = OnEachHart (λ i h s. IsOutside h s → InTime (image_on i h) h (slots_of h s) s.world)

-- a hart's clock as the work of its next switch is done, before the wait
abbrev pub clock_after_work : Image → ℕ → Harts → ℕ
clock_after_work i h s =
    let on = image_on i h in
    let k = slots_of h s in
    clock_of h s.world
    + (switch_work on (outgoing on.all.schedule k) (domain_in i h k) (caches_of h s.world)).cost

-- every clock of a hart is far from the end of its range, in each slot and in each switch
pub record ClocksFit (i : Image) (h : ℕ) (s : Harts) : Type 0 where
  pub now : clock_of h s.world < 2 ^ 62
  pub worked : IsOutside h s → clock_after_work i h s < 2 ^ 62
  pub begins : start_on i h (slots_of h s) < 2 ^ 62
  pub ends : slot_end_on i h s < 2 ^ 62

-- from the limits of an image and of a run alone
abbrev pub ClockLaw : Type 0
ClockLaw = OnEachHart (λ i h s. slots_of h s ≤ 65536 → ClocksFit i h s)

-- ---- the memory that the machine opens with

abbrev pub opening_memory : Image → Mem
opening_memory i = (harts i []).world.storage.mem

-- a walk of a domain's page tables in it
abbrev pub opening_walk : Image → ℕ → ℕ → Access → Result ℕ WalkFault
opening_walk i d va a =
    let p = i.all.hardware in
    (walk (opening_memory i) p.frames (root_of p (own_of i d)) va a).result

-- the rights that a domain's segments give the page of an address
abbrev pub rights_at : Image → ℕ → ℕ → ℕ → Type 0
rights_at i d va rights = rights_in (own_of i d).segments (va / 4096) ≡ Some rights

-- it comes to the page that one of the domain's segments has there, where its rights let the access through
abbrev pub OpeningPageLaw : Type 0
OpeningPageLaw = (i : Image) (d va : ℕ) (a : Access) (rights : ℕ) → Runnable i → IsDomain i d → va < 2 ^ 32
    → rights_at i d va rights → rights_permit rights a ≡ true
    → opening_walk i d va a ≡ Ok (leaf_word (page_frame i.all.hardware (own_of i d) (va / 4096)) rights)

-- else it is a page fault
abbrev pub OpeningRightsLaw : Type 0
OpeningRightsLaw = (i : Image) (d va : ℕ) (a : Access) (rights : ℕ) → Runnable i → IsDomain i d → va < 2 ^ 32
    → rights_at i d va rights → rights_permit rights a ≡ false → opening_walk i d va a ≡ Err fault.Page

abbrev pub OpeningNoPageLaw : Type 0
OpeningNoPageLaw = (i : Image) (d va : ℕ) (a : Access) → Runnable i → IsDomain i d → va < 2 ^ 32
    → rights_in (own_of i d).segments (va / 4096) ≡ None → opening_walk i d va a ≡ Err fault.Page

-- each page of a domain has a frame of its own
abbrev pub OpeningFramesLaw : Type 0
OpeningFramesLaw = (i : Image) (d n m r q : ℕ) → Runnable i → IsDomain i d
    → rights_in (own_of i d).segments n ≡ Some r → rights_in (own_of i d).segments m ≡ Some q
    → page_frame i.all.hardware (own_of i d) n ≡ page_frame i.all.hardware (own_of i d) m → n ≡ m

-- all frames of its pool but the root, the tables and the pages read zero: those of its kernel clone, and those that are
-- free
abbrev pub OpeningZeroLaw : Type 0
OpeningZeroLaw = (i : Image) (d n j : ℕ) → Runnable i → IsDomain i d
    → n < length (pool i.all.hardware (own_of i d)) → (n < 4) ⊎ (frames_in (own_of i d).segments ≤ n)
    → word (opening_memory i) (pool_frame i.all.hardware (own_of i d) n) j ≡ 0

-- and so do frames that are of no domain's pool
abbrev pub OpeningElsewhereLaw : Type 0
OpeningElsewhereLaw = (i : Image) (f j : ℕ) → Runnable i
    → ((d : ℕ) → IsDomain i d → own_frame i.all.hardware (own_of i d) f ≡ false)
    → word (opening_memory i) f j ≡ 0

-- ---- whose the frames are

-- no frame is of two domains' pools
abbrev pub PoolsApartLaw : Type 0
PoolsApartLaw = (i : Image) (d e f : ℕ) → Runnable i → IsDomain i d → IsDomain i e → d ≢ e
    → IsOwnFrame i.all.hardware (own_of i d) f → own_frame i.all.hardware (own_of i e) f ≡ false

-- none of them has the kernel's colour, which is 0
abbrev pub KernelColourLaw : Type 0
KernelColourLaw = (i : Image) (d f : ℕ) → Runnable i → IsDomain i d → IsOwnFrame i.all.hardware (own_of i d) f
    → f % colours_of i.all.hardware ≢ 0

-- a domain's pool has, in this order, the frames of its kernel clone, its root, its tables, its pages, and what is free
abbrev pub PoolPartsLaw : Type 0
PoolPartsLaw = (i : Image) (d : ℕ) → Runnable i → IsDomain i d →
    let p = i.all.hardware in
    let o = own_of i d in
    pool p o ≡ clone_frames p o ++ root_of p o ∷ (first_tables p o ++ (page_frames p o ++ free_frames p o))

-- ---- frames and page tables while the machine runs

-- at each moment, whoever runs, the facts of each domain hold: each frame of its pool is free, kept for good, or named by its
-- capabilities, and its page tables are what these say
abbrev pub FactsLaw : Type 0
FactsLaw = OfEachDomain (λ i d s. HasFacts i.all.hardware (own_of i d) (dom_of s.world d) s.world.storage)

-- so each domain reaches its own frames alone
abbrev pub ReachLaw : Type 0
ReachLaw = OfEachDomain (λ i d s. ReachesOwn i.all.hardware (own_of i d) (dom_of s.world d) s.world.storage)

-- and no walk leaves memory: there are page faults, and no access fault
abbrev pub NoAccessFaultLaw : Type 0
NoAccessFaultLaw = OfEachDomain (λ i d s. (va : ℕ) (a : Access)
    → (walk s.world.storage.mem i.all.hardware.frames (root_of i.all.hardware (own_of i d)) va a).result
    ≢ Err fault.Access)

-- no leaf of theirs has wider rights than the capability through which its page is mapped
abbrev pub RightsLaw : Type 0
RightsLaw = OfEachDomain (λ i d s. HasRights i.all.hardware (own_of i d) (dom_of s.world d) s.world.storage)

-- so what a walk lets through, a capability's rights let through, or the page is one that stays for good
abbrev pub PermittedLaw : Type 0
PermittedLaw = OfEachDomain (λ i d s. (va leaf : ℕ) (a : Access) →
    let e = estate i.all.hardware (own_of i d) in
    found_at e s.world.storage.mem va a ≡ Ok leaf → MayReach e (dom_of s.world d) va (ppn leaf) a)

-- what the kernel has of each domain is as it should be
abbrev pub KernelLaw : Type 0
KernelLaw = (i : Image) (d : ℕ) → Runnable i → IsDomain i d → IsKernel i.all.hardware (own_of i d)

-- at each moment, whoever runs, each domain still has its frames for good
abbrev pub ForGoodLaw : Type 0
ForGoodLaw = OfEachDomain (λ i d s.
    let p = i.all.hardware in
    All (IsForGood p (own_of i d) (dom_of s.world d)) (frames_for_good p (own_of i d)))

-- ---- parties: who has frames and sets of its own, as each domain of an image has

-- any two domains of an image are parties
abbrev pub PartiesLaw : Type 0
PartiesLaw = (i : Image) (d e : ℕ) → Runnable i → IsDomain i d → IsDomain i e → d ≢ e
    → AreParties i.all.hardware (own_of i d) (own_of i e)

-- whichever is named first
abbrev pub PartiesSwapLaw : Type 0
PartiesSwapLaw = (p : Hardware) (o other : Own) → AreParties p o other → AreParties p other o

-- no frame is of two parties
abbrev pub PartyFramesLaw : Type 0
PartyFramesLaw = (p : Hardware) (o other : Own) (f : ℕ) → AreParties p o other → IsOwnFrame p o f
    → own_frame p other f ≡ false

-- ---- one event and one phase, of which isolation is made: what another party does, or is done for it, leaves a party's
-- frames and sets, where the dirty lines are the other's

-- it has an event
abbrev pub OthersStepLaw : Type 0
OthersStepLaw = (p : Hardware) (o other : Own) (end : ℕ) (s : Local) → AreParties p o other
    → HasFacts p other s.dom s.storage → OwnDirty p other s.caches
    → SamePart p o (step (setting p other false) end s) s

-- it leaves or enters
abbrev pub OthersLeaveLaw : Type 0
OthersLeaveLaw = (p : Hardware) (o other : Own) (c : Caches) → AreParties p o other → OwnDirty p other c
    → SameSets p o (leave_part (hierarchy p) false p.costs (layout p other) c).caches c

abbrev pub OthersEnterLaw : Type 0
OthersEnterLaw = (p : Hardware) (o other : Own) (c : Caches) → AreParties p o other → OwnDirty p other c
    → SameSets p o (enter_part (hierarchy p) false (layout p other) c).caches c

-- it has left: the prefetch and the flush write its dirty lines back
abbrev pub PrefetchLaw : Type 0
PrefetchLaw = (p : Hardware) (o other : Own) (c : Caches) → AreParties p o other → OwnDirty p other c
    → SameSets p o (prefetch_part (hierarchy p) (region p) c).caches c

abbrev pub FlushLaw : Type 0
FlushLaw = (p : Hardware) (o other : Own) (c : Caches) → AreParties p o other → OwnDirty p other c
    → SameSets p o (flush_part (hierarchy p) false c).caches c

-- for the one that has left itself it makes no difference that a prefetch comes before the flush
abbrev pub SettledLaw : Type 0
SettledLaw = (p : Hardware) (o : Own) (c : Caches) → IsHardware p → IsKernel p o →
    let h = hierarchy p in
    SameSets p o (flush_part h false (prefetch_part h (region p) c).caches).caches
    (flush_part h false c).caches

-- so an event of a slot leaves every domain whose slot it isn't, its memory and its part of the caches
abbrev pub OthersEventLaw : Type 0
OthersEventLaw = OnEachHart (λ i h s. (d : ℕ) → IsDomain i d → IsInSlot h s → d ≢ domain_on i h s
    → Untouched i.all.hardware (own_of i d) d (next i h s).world s.world)

-- what is done to a domain on one hart changes nothing of another: its on-core state, its clock, and when its slot ended
abbrev pub OtherHartLaw : Type 0
OtherHartLaw =
    (h other d : ℕ) (w : World) (s : Local) → h ≢ other → hart_of h (with_part other d w s) ≡ hart_of h w

-- and of its own hart on-core state and clock alone
abbrev pub OwnHartLaw : Type 0
OwnHartLaw = (h d : ℕ) (w : World) (s : Local)
    → hart_of h (with_part h d w s) ≡ record (hart_of h w) { core = s.caches.core; clock = s.clock }

-- the domain's own step, from states that are beside: at equal cost, since the clocks stay equal
abbrev pub OwnStepLaw : Type 0
OwnStepLaw = (p : Hardware) (o : Own) (end : ℕ) (first s a : Local) → Beside p o first s a
    → Beside p o first (step (setting p o false) end s) (step (setting p o true) end a)

-- the work of a switch is its parts, one after the other
abbrev pub SwitchWorkLaw : Type 0
SwitchWorkLaw = (i : Image) (d e : ℕ) (c : Caches) →
    let p = i.all.hardware in
    let h = hierarchy p in
    let left = leave_part h false p.costs (layout p (own_of i d)) c in
    switch_work i (Some d) e c
    ≡ and_then (and_then (and_then left (prefetch_part h (region p))) (flush_part h false))
    (enter_part h false (layout p (own_of i e)))

-- at the boot nobody leaves, at no cost
abbrev pub BootWorkLaw : Type 0
BootWorkLaw = (i : Image) (e : ℕ) (c : Caches) →
    let p = i.all.hardware in
    let h = hierarchy p in
    switch_work i None e c
    ≡ and_then (and_then (and_then (at_no_cost c) (prefetch_part h (region p))) (flush_part h false))
    (enter_part h false (layout p (own_of i e)))

-- before hart h's next switch, who leaves and who enters
abbrev pub leaves_on : Image → ℕ → Harts → Option ℕ
leaves_on i h s = outgoing (image_on i h).all.schedule (slots_of h s)

-- what waits for d then
abbrev pub comes_to : Image → ℕ → ℕ → Harts → Arrival
comes_to i h d s = arrival d (left_boxes (leaves_on i h s) s.world.storage.boxes)

-- a hart's switch from d to another
abbrev pub SwitchOutLaw : Type 0
SwitchOutLaw = OnEachHart (λ i h s. (d : ℕ) (a : Local) → IsDomain i d → IsOutside h s
    → leaves_on i h s ≡ Some d → domain_on i h s ≢ d
    → Within i.all.hardware (own_of i d) (part_of h d s.world) a
    → Apiece i.all.hardware (own_of i d) (part_of h d (next i h s).world) (alone_out i.all.hardware (own_of i d) a))

-- from another, or from nobody, to d
abbrev pub SwitchInLaw : Type 0
SwitchInLaw = OnEachHart (λ i h s. (d : ℕ) (a : Local) → IsDomain i d → IsOutside h s
    → leaves_on i h s ≢ Some d → domain_on i h s ≡ d
    → Apiece i.all.hardware (own_of i d) (part_of h d s.world) a
    → Within i.all.hardware (own_of i d) (part_of h d (next i h s).world)
    (alone_enter (public_on i.all h) (own_of i d) (slots_of h s) (comes_to i h d s) a))

-- from d to d
abbrev pub SwitchBothLaw : Type 0
SwitchBothLaw = OnEachHart (λ i h s. (d : ℕ) (a : Local) → IsDomain i d → IsOutside h s
    → leaves_on i h s ≡ Some d → domain_on i h s ≡ d
    → Within i.all.hardware (own_of i d) (part_of h d s.world) a
    → Within i.all.hardware (own_of i d) (part_of h d (next i h s).world)
    (alone_enter (public_on i.all h) (own_of i d) (slots_of h s) (comes_to i h d s) (alone_out i.all.hardware (own_of i d) a)))

-- between others
abbrev pub SwitchPastLaw : Type 0
SwitchPastLaw = OnEachHart (λ i h s. (d : ℕ) (a : Local) → IsDomain i d → IsOutside h s
    → leaves_on i h s ≢ Some d → domain_on i h s ≢ d
    → Apiece i.all.hardware (own_of i d) (part_of h d s.world) a
    → Apiece i.all.hardware (own_of i d) (part_of h d (next i h s).world) a)

-- from the first switch of any hart on, every shared line is in the second level
abbrev pub ResidencyLaw : Type 0
ResidencyLaw = OnEachHart (λ i h s. 0 < switches_of h s → Resident i.all.hardware (caches_of h s.world))

-- ---- the sets of colour 0, the kernel's

-- before the first event no set of the second level keeps a line
abbrev pub EmptyLaw : Type 0
EmptyLaw = (i : Image) (s way : ℕ) → kept_at (hierarchy i.all.hardware) (harts i []).world.l2 s way ≡ None

-- all that hart h's next switch touches, in order
abbrev pub switch_touches : Image → ℕ → Harts → List Touch
switch_touches i h s =
    let p = i.all.hardware in
    operations.switch p.costs (clone_of (image_on i h) (leaves_on i h s)) (layout p (owner_on i h s))

-- the hart's caches in the midst of it, after so many of its touches
abbrev pub caches_in_switch : Image → ℕ → Harts → ℕ → Caches
caches_in_switch i h s n =
    (touched_all (hierarchy i.all.hardware) false (caches_of h s.world) (take n (switch_touches i h s))).caches

-- after all of them the slot begins
abbrev pub AfterSwitchLaw : Type 0
AfterSwitchLaw = OnEachHart (λ i h s. IsOutside h s
    → caches_in_switch i h s (length (switch_touches i h s)) ≡ caches_of h (next i h s).world)

-- at each moment of each switch the sets of colour 0 keep shared lines alone
abbrev pub SwitchAloneLaw : Type 0
SwitchAloneLaw = OnEachHart (λ i h s. (n : ℕ) → IsOutside h s
    → KeepsSharedAlone i.all.hardware (caches_in_switch i h s n))

-- and after each event
abbrev pub AloneLaw : Type 0
AloneLaw = OnEachHart (λ i h s. KeepsSharedAlone i.all.hardware (caches_of h s.world))

-- ---- dirty lines

-- no line of colour 0 is ever dirty, so the kernel's shared lines cost the same whatever the domains wrote: at each moment of
-- each switch
abbrev pub SwitchCleanLaw : Type 0
SwitchCleanLaw = OnEachHart (λ i h s. (n : ℕ) → IsOutside h s
    → KernelIsClean i.all.hardware (caches_in_switch i h s n))

-- and after each event
abbrev pub CleanLaw : Type 0
CleanLaw = OnEachHart (λ i h s. KernelIsClean i.all.hardware (caches_of h s.world))

-- a domain's dirty lines lie in its own sets, so what gives way to them costs no one else: in each slot those of its hart's
-- first level are of the domain whose slot it is
abbrev pub SlotDirtyLaw : Type 0
SlotDirtyLaw = OnEachHart (λ i h s. IsInSlot h s → OwnDirty i.all.hardware (owner_on i h s) (caches_of h s.world))
