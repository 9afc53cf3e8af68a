-- The whole machine, and one domain alone.
use Rattle.std.specs.Prelude.{ℕ, zero, suc, ◌+◌, ◌-◌, ◌/◌, ◌==◌, max, nat_lt, nat_le, nat_eq, Bool, true, false, if◌then◌else◌, List, [], ◌∷◌, ◌++◌, take, Option, Some, None}
use Rattle.tp_base.specs.Table.{Table, empty, at, put}
use Rattle.tp_base.specs.Act.{Done, either}
use Rattle.guards.specs.declared.Guard.{Guard}
use Rattle.guards.specs.declared.Guard.TheVariants as guard
use Rattle.irq_partition.specs.declared.Moment.{Moment}
use Rattle.irq_partition.specs.Interrupts.{next_of}
use Rattle.hardware_check.specs.Hardware.{Hardware}
use Rattle.image_check.specs.Public.{Public}
use Rattle.image_check.specs.Own.{Own}
use Rattle.image_check.specs.Image.{Image, own_of}
use Rattle.sched_table.specs.Schedule.{entry_of_slot, switch_entry, start, slot_end, last_end, outgoing}
use Rattle.world_view.specs.Opening.{placed, all_placed}
use Rattle.call_table.specs.Domain.{Dom, is_running, delivered_on}
use Rattle.world_view.specs.Kernel.{opening_dom, estate, layout, no_dom}
use Rattle.cycle_cost.specs.Costs.{CostTable}
use Rattle.kernel_clone.specs.Footprints.{Layout}
use Rattle.mem_system.specs.Hierarchy.{Hierarchy}
use Rattle.branch_pred.specs.Guesses.{fresh_guesses}
use Rattle.set_cache.specs.Cache.{Sets}
use Rattle.mem_system.specs.Cost.{Touch, EmptyTlb, Flush, Core, Caches, fresh_core, cold, Touched, at_no_cost, and_then, touched, touched_all}
use Rattle.mem_system.specs.Operations.{leave, enter, prefetch}
use Rattle.mail_slots.specs.Boxes as mail
use Rattle.mail_slots.specs.Sides.{Arrival, bring}
use Rattle.world_view.specs.Mail.{Came, arrivals_in, switched_boxes, came_to, turns, nth_of}
use Rattle.world_view.specs.Cost.{hierarchy, region}
use Rattle.world_view.specs.Event.{Storage, instruction, delivery_touches, Event, event, interrupts_of}
use Rattle.world_view.specs.Event.Event.{Jump, Deliver, Run}

-- ---- a domain in its slot

-- what it can see and change: on the whole machine all of memory and the caches, not its own part alone
pub record Local : Type 0 where
  pub dom : Dom
  pub storage : Storage
  pub caches : Caches
  pub clock : ℕ

-- what the steps of a slot go by: the machine, whose slot it is, the sizes of the caches, the kernel clone that works for it,
-- and whether the kernel's lines are pinned
pub record Setting : Type 0 where
  pub machine : Hardware
  pub own : Own
  pub levels : Hierarchy
  pub clone : Layout
  pub pinned : Bool

-- a domain with the clone of its own
abbrev pub setting : Hardware → Own → Bool → Setting
setting p o pinned =
    record { machine = p; own = o; levels = hierarchy p; clone = layout p o; pinned = pinned }

-- the work was done at this clock; its touches are paid now
unfoldable pub paid : Setting → Caches → ℕ → Done Storage Touch Dom Dom → Local
paid w c t r =
    let q = touched_all w.levels w.pinned c r.notes in
    record {
      dom = either r.value;
      storage = r.state;
      caches = q.caches;
      clock = t + (w.machine.costs.base + q.cost);
    }

-- a moment was delivered on this line; its touches are paid, and no base
unfoldable pub delivered : Setting → ℕ → Local → Local
delivered w line s =
    let q = touched_all w.levels w.pinned s.caches (delivery_touches w.machine w.clone) in
    record s { dom = delivered_on line s.dom; caches = q.caches; clock = s.clock + q.cost }

unfoldable pub happened : Setting → Local → Event → Local
happened w s (Jump t) = record s { clock = t }
happened w s (Deliver line) = delivered w line s
happened w s Run =
    paid w s.caches s.clock (instruction w.machine (estate w.machine w.own) w.clone s.clock s.dom s.storage)

-- one event in a slot that ends then
unfoldable pub step : Setting → ℕ → Local → Local
step w end s = happened w s (event w.own s.clock end s.dom)

-- as many steps, at most, while the clock is below the end
unfoldable pub steps : Setting → ℕ → ℕ → Local → Local
steps w end zero s = s
steps w end (suc n) s = elim (nat_lt s.clock end) [ true ↦ steps w end n (step w end s) | false ↦ s ]

-- steps while the clock is below the end: each takes a cycle or more
abbrev pub stretch : Setting → ℕ → Local → Local
stretch w end s = steps w end (end - s.clock) s

-- ---- what keeps domains apart in time

-- what each guard gives
pub record Guards : Type 0 where
  pub flush : Bool  -- a switch makes all that is on the core fresh, not the translation buffer alone
  pub prefetch : Bool  -- it loads the shared lines
  pub pad : Bool  -- it waits for the next start
  pub levels : Hierarchy  -- the second level's sets are shared out by colours
  pub clone : ℕ → Layout  -- each domain's kernel clone is its own
  pub irq : Bool  -- a moment comes in its domain's own slots alone

-- all of them
unfoldable pub guarded : Image → Guards
guarded i = record {
  flush = true;
  prefetch = true;
  pad = true;
  levels = hierarchy i.all.hardware;
  clone = λ d. layout i.all.hardware (own_of i d);
  irq = true;
}

-- a second level of one colour: it has the sets of a frame's lines alone
abbrev pub uncoloured : Hardware → Hierarchy
uncoloured p = record (hierarchy p) { l2 = record (hierarchy p).l2 { count = 4096 / p.line } }

-- all but one
abbrev pub without : Guard → Image → Guards
without guard.Flush i = record (guarded i) { flush = false }
without guard.Prefetch i = record (guarded i) { prefetch = false }
without guard.Pad i = record (guarded i) { pad = false }
without guard.Colour i = record (guarded i) { levels = uncoloured i.all.hardware }
without guard.Clone i = record (guarded i) { clone = λ d. layout i.all.hardware (own_of i 0) }
without guard.Irq i = record (guarded i) { irq = false }

-- all, or all but one
abbrev pub guards_of : Option Guard → Image → Guards
guards_of None i = guarded i
guards_of (Some off) i = without off i

-- domain d on the whole machine
abbrev pub setting_by : Guards → Image → ℕ → Setting
setting_by g i d =
    record {
      machine = i.all.hardware;
      own = own_of i d;
      levels = g.levels;
      clone = g.clone d;
      pinned = false;
    }

-- ---- a switch, in its parts: in a hierarchy, where the kernel's lines are pinned or not

-- the domain of a kernel clone leaves
abbrev pub leave_part : Hierarchy → Bool → CostTable → Layout → Caches → Touched
leave_part h pinned costs l c = touched_all h pinned c (leave costs l)

-- the shared lines are loaded
abbrev pub prefetch_part : Hierarchy → List ℕ → Caches → Touched
prefetch_part h lines c = touched_all h false c (prefetch lines)

-- all on-core state is made fresh
abbrev pub flush_part : Hierarchy → Bool → Caches → Touched
flush_part h pinned c = touched h pinned c Flush

-- the domain of a kernel clone enters
unfoldable pub enter_part : Hierarchy → Bool → Layout → Caches → Touched
enter_part h pinned l c = touched_all h pinned c (enter l)

-- ---- a switch, by the guards that are on

-- the kernel clone of who leaves: nobody's at the boot
abbrev pub clone_of : Image → Option ℕ → Option Layout
clone_of i None = None
clone_of i (Some d) = Some (layout i.all.hardware (own_of i d))

-- the one that works for it
abbrev pub clone_by : Guards → Option ℕ → Option Layout
clone_by g None = None
clone_by g (Some d) = Some (g.clone d)

-- who was running leaves: nobody at the boot
unfoldable pub leave_by : Guards → Image → Option ℕ → Caches → Touched
leave_by g i None c = at_no_cost c
leave_by g i (Some d) c = leave_part g.levels false i.all.hardware.costs (g.clone d) c

unfoldable pub prefetch_by : Guards → Image → Caches → Touched
prefetch_by g i c = if g.prefetch then prefetch_part g.levels (region i.all.hardware) c else at_no_cost c

unfoldable pub flush_by : Guards → Caches → Touched
flush_by g c = if g.flush then flush_part g.levels false c else touched g.levels false c EmptyTlb

unfoldable pub switch_work_by : Guards → Image → Option ℕ → ℕ → Caches → Touched
switch_work_by g i out d c =
    and_then (and_then (and_then (leave_by g i out c) (prefetch_by g i)) (flush_by g))
    (enter_part g.levels false (g.clone d))

-- with all guards on
abbrev pub switch_work : Image → Option ℕ → ℕ → Caches → Touched
switch_work i = switch_work_by (guarded i) i

-- ---- the whole machine, which has one hart, number 0

-- what a hart has to itself: the state on its core, its clock, and when its last slot ended
pub record Hart : Type 0 where
  pub core : Core
  pub clock : ℕ
  pub ended : ℕ

-- a hart that no machine has
abbrev pub no_hart : Hart
no_hart = record {
  core = record {
    l1i = empty;
    l1d = empty;
    tlb = empty;
    guesses = fresh_guesses (record { counters = 0; history = 0; targets = 0 });
  };
  clock = 0;
  ended = 0;
}

-- memory, boxes and the second level are of all harts
pub record World : Type 0 where
  pub doms : Table Dom
  pub storage : Storage
  pub l2 : Sets
  pub harts : Table Hart
  pub used : List (ℕ × ℕ)  -- for each switch its entry, and the cycles from the ended slot's end to the end of its work
  pub came : List Came  -- for each switch what came in boxes as its slot began: no machine stores it

abbrev pub dom_of : World → ℕ → Dom
dom_of w d = at no_dom w.doms d

-- a hart by its number
abbrev pub hart_of : ℕ → World → Hart
hart_of h w = at no_hart w.harts h

-- the caches that a hart works on, and its clock
abbrev pub caches_of : ℕ → World → Caches
caches_of h w = record { core = (hart_of h w).core; l2 = w.l2 }

abbrev pub clock_of : ℕ → World → ℕ
clock_of h w = (hart_of h w).clock

abbrev pub ended_of : ℕ → World → ℕ
ended_of h w = (hart_of h w).ended

unfoldable pub with_hart : ℕ → World → Caches → ℕ → World
with_hart h w c t =
    record w { l2 = c.l2; harts = put w.harts h (record (hart_of h w) { core = c.core; clock = t }) }

-- its slot ended then
unfoldable pub with_end : ℕ → World → ℕ → World
with_end h w end = record w { harts = put w.harts h (record (hart_of h w) { ended = end }) }

-- a domain on a hart
abbrev pub part_of : ℕ → ℕ → World → Local
part_of h d w = record { dom = dom_of w d; storage = w.storage; caches = caches_of h w; clock = clock_of h w }

unfoldable pub with_part : ℕ → ℕ → World → Local → World
with_part h d w s = with_hart h (record w { doms = put w.doms d s.dom; storage = s.storage }) s.caches s.clock

-- on hart h switch k begins when its last slot has ended: with pads that is known before
abbrev pub ended_by : Guards → Image → ℕ → ℕ → World → ℕ
ended_by g i h k w = if g.pad then last_end i.all.schedule k else ended_of h w

-- its work was done at this clock, and then it waits for the next start
abbrev pub begins_by : Guards → Image → ℕ → ℕ → ℕ
begins_by g i k now = if g.pad then max now (start i.all.schedule k) else now

-- when slot k ends, which begins at this clock
abbrev pub ends_by : Guards → Image → ℕ → ℕ → ℕ
ends_by g i k begun =
    if g.pad then slot_end i.all.schedule k else begun + (entry_of_slot i.all.schedule k).length

-- what switch k does on a hart
abbrev pub work_on : Guards → Image → ℕ → ℕ → World → Touched
work_on g i h k w =
    switch_work_by g i (outgoing i.all.schedule k) (entry_of_slot i.all.schedule k).domain (caches_of h w)

-- what was put in by who leaves goes off, and what waits for who enters comes in
abbrev pub with_mail : Option ℕ → ℕ → World → World
with_mail out d w = record w {
  storage = record w.storage { boxes = switched_boxes out d w.storage.boxes };
  came = w.came ++ came_to out d w.storage.boxes ∷ [];
}

-- its work, and then the wait; words in boxes move at no cost
unfoldable pub switch_on : Guards → Image → ℕ → ℕ → World → World
switch_on g i h k w =
    let r = work_on g i h k w in
    with_hart h (with_mail (outgoing i.all.schedule k) (entry_of_slot i.all.schedule k).domain w) r.caches
    (begins_by g i k (clock_of h w + r.cost))

-- for each slot of domain d that has begun, in order, what it began with
abbrev pub arrivals : ℕ → World → List Arrival
arrivals d w = arrivals_in d w.came

-- the cycles from the ended slot's end to the end of its work
abbrev pub cycles_on : Guards → Image → ℕ → ℕ → World → ℕ
cycles_on g i h k w = (clock_of h w + (work_on g i h k w).cost) - ended_by g i h k w

-- a switch of an entry took so many
abbrev pub noted : ℕ → ℕ → World → World
noted e cycles w = record w { used = w.used ++ (e, cycles) ∷ [] }

-- switch k
unfoldable pub switch_by : Guards → Image → ℕ → World → World
switch_by g i k w = noted (switch_entry i.all.schedule k) (cycles_on g i 0 k w) (switch_on g i 0 k w)

-- a slot of domain d up to this end, in which its own moments come
unfoldable pub own_slot : Guards → Image → ℕ → ℕ → World → World
own_slot g i d end w = with_part 0 d w (stretch (setting_by g i d) end (part_of 0 d w))

-- the next step of domain d on a hart, in a slot up to this end
abbrev pub own_step : Guards → Image → ℕ → ℕ → ℕ → World → World
own_step g i h d end w = with_part h d w (step (setting_by g i d) end (part_of h d w))

-- ---- where moments of all domains come

-- a moment, and whose it is
pub record Owned : Type 0 where
  pub owner : ℕ
  pub moment : Moment

-- domain d's next moment, if its cycle has come
abbrev pub if_due : ℕ → ℕ → Option Moment → Option Owned
if_due now d None = None
if_due now d (Some x) = if nat_le x.at now then Some (record { owner = d; moment = x }) else None

abbrev pub comes_first : Moment → Moment → Bool
comes_first x y = if nat_eq x.at y.at then nat_lt x.line y.line else nat_lt x.at y.at

-- the one that comes first, if there is one
abbrev pub first_of : Option Owned → Option Owned → Option Owned
first_of None y = y
first_of (Some x) None = Some x
first_of (Some x) (Some y) = if comes_first y.moment x.moment then Some y else Some x

-- the first moment that is due by a hart's clock, of the domains below this number
unfoldable pub first_due : Image → ℕ → World → ℕ → Option Owned
first_due i h w zero = None
first_due i h w (suc d) =
    first_of (first_due i h w d) (if_due (clock_of h w) d (next_of (interrupts_of (own_of i d) (dom_of w d))))

-- it comes to its owner; the kernel clone of the domain that runs is charged
abbrev pub delivered_or_step : Guards → Image → ℕ → ℕ → ℕ → World → Option Owned → World
delivered_or_step g i h d end w None = own_step g i h d end w
delivered_or_step g i h d end w (Some x) =
    with_part h x.owner w (delivered (setting_by g i d) x.moment.line (part_of h x.owner w))

-- one event in a slot of domain d: while it runs, the first moment that is due of any domain comes first
unfoldable pub step_among : Guards → Image → ℕ → ℕ → ℕ → World → World
step_among g i h d end w =
    delivered_or_step g i h d end w
    (if is_running (dom_of w d).status then first_due i h w i.all.domains else None)

unfoldable pub steps_among : Guards → Image → ℕ → ℕ → ℕ → ℕ → World → World
steps_among g i h d end zero w = w
steps_among g i h d end (suc n) w =
    elim (nat_lt (clock_of h w) end) [ true ↦ steps_among g i h d end n (step_among g i h d end w) | false ↦ w ]

abbrev pub open_slot : Guards → Image → ℕ → ℕ → World → World
open_slot g i d end w = steps_among g i 0 d end (end - clock_of 0 w) w

-- ---- one event

-- in a slot of domain d: where its own moments alone come, its next step
abbrev pub event_if : Bool → Guards → Image → ℕ → ℕ → ℕ → World → World
event_if true = own_step
event_if false = step_among

-- ---- slots

-- whose moments come in a slot
abbrev pub slot_if : Bool → Guards → Image → ℕ → ℕ → World → World
slot_if true = own_slot
slot_if false = open_slot

unfoldable pub run_slot_by : Guards → Image → ℕ → World → World
run_slot_by g i k w =
    let before = switch_by g i k w in
    let end = ends_by g i k (clock_of 0 before) in
    with_end 0 (slot_if g.irq g i (entry_of_slot i.all.schedule k).domain end before) end

-- the domains from number d on, each at its entry
unfoldable pub opening_doms : Hardware → List Own → ℕ → Table Dom
opening_doms p [] d = empty
opening_doms p (o ∷ os) d = put (opening_doms p os (suc d)) d (opening_dom p o)

-- what each domain of the image has of its own
abbrev pub domains_of : Image → List Own
domains_of i = take i.all.domains i.owns

-- memory, before there is a hart
abbrev pub no_harts : Image → World
no_harts i = record {
  doms = opening_doms i.all.hardware (domains_of i) 0;
  storage = record { mem = all_placed i.all.hardware (domains_of i); boxes = mail.opening i.all.mail };
  l2 = empty;
  harts = empty;
  used = [];
  came = [];
}

-- a hart whose caches hold nothing, at clock 0
abbrev pub with_cold : Image → ℕ → World → World
with_cold i h w = with_hart h w (cold (hierarchy i.all.hardware)) 0

unfoldable pub opening : Image → World
opening i = with_cold i 0 (no_harts i)

-- after so many slots
unfoldable pub whole_by : Guards → Image → ℕ → World
whole_by g i zero = opening i
whole_by g i (suc k) = run_slot_by g i k (whole_by g i k)

-- with all guards on: the machine of which isolation is proved
abbrev pub switch : Image → ℕ → World → World
switch i = switch_by (guarded i) i

abbrev pub run_slot : Image → ℕ → World → World
run_slot i = run_slot_by (guarded i) i

abbrev pub whole : Image → ℕ → World
whole i = whole_by (guarded i) i

-- with one of them off
abbrev pub whole_off : Guard → Image → ℕ → World
whole_off off i = whole_by (without off i) i

-- ---- the domain alone: one domain, its own frames, and nobody else to switch from or to; what comes to it in boxes is given

unfoldable pub alone_opening : Public → Own → Local
alone_opening p o = record {
  dom = opening_dom p.hardware o;
  storage = record { mem = placed p.hardware o empty; boxes = mail.opening p.mail };
  caches = cold (hierarchy p.hardware);
  clock = 0;
}

-- slot k begins, and these words come in: on-core state is fresh, the clock stands at its start, and enter isn't charged
unfoldable pub alone_enter : Public → Own → ℕ → Arrival → Local → Local
alone_enter p o k words s =
    let h = hierarchy p.hardware in
    let r = enter_part h true (layout p.hardware o) (record s.caches { core = fresh_core h }) in
    record s {
      storage = record s.storage { boxes = bring words s.storage.boxes };
      caches = r.caches;
      clock = start p.schedule k;
    }

-- slot k up to its end
unfoldable pub alone_in : Public → Own → ℕ → Arrival → Local → Local
alone_in p o k words s =
    stretch (setting p.hardware o true) (slot_end p.schedule k) (alone_enter p o k words s)

-- leave isn't charged either; nor is the flush, which writes its dirty lines back. What it put in goes off
unfoldable pub alone_out : Hardware → Own → Local → Local
alone_out p o s =
    let left = leave_part (hierarchy p) true p.costs (layout p o) s.caches in
    record s {
      storage = record s.storage { boxes = mail.ends o.number s.storage.boxes };
      caches = (flush_part (hierarchy p) true left.caches).caches;
    }

unfoldable pub alone_if : Public → Own → ℕ → Arrival → Local → Bool → Local
alone_if p o k words s true = alone_out p.hardware o (alone_in p o k words s)
alone_if p o k words s false = s

-- each slot of its own begins with what the list has for it
unfoldable pub alone_mail : Public → Own → ℕ → List Arrival → ℕ → Local
alone_mail p o d came zero = alone_opening p o
alone_mail p o d came (suc k) =
    alone_if p o k (nth_of came (turns p.schedule d k)) (alone_mail p o d came k)
    ((entry_of_slot p.schedule k).domain == d)

-- nothing comes in
abbrev pub alone : Public → Own → ℕ → ℕ → Local
alone p o d k = alone_mail p o d [] k
