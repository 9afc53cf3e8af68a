-- Several harts over one memory and one second level, in any order of their events.
use Rattle.std.specs.Prelude.{◌≡◌, ℕ, zero, suc, ◌+◌, Bool, true, false, nat_lt, if◌then◌else◌, List, [], ◌∷◌, Option, None}
use Rattle.tp_base.specs.Table.{Table, empty, at, put}
use Rattle.image_check.specs.Public.{Public}
use Rattle.image_check.specs.Own.{Own}
use Rattle.image_check.specs.Image.{Image, own_of}
use Rattle.sched_table.specs.Schedule.{entry_of_slot, switch_entry, start, slot_end, on_hart, place_on, harts_in, hart_for}
use Rattle.guards.specs.declared.Guard.{Guard}
use Rattle.world_view.specs.Machine.{Local, World, Guards, guards_of, clock_of, ended_of, part_of, with_end, ends_by, switch_on, cycles_on, noted, event_if, no_harts, with_cold}
use Rattle.mail_slots.specs.Sides.{Arrival}
use Rattle.world_view.specs.View.{View, view_in, view_mailed}

-- ---- a hart's own entries

-- what all may know, with the entries of one hart alone
abbrev pub public_on : Public → ℕ → Public
public_on p h = record p { schedule = on_hart p.schedule h }

abbrev pub image_on : Image → ℕ → Image
image_on i h = record i { all = public_on i.all h }

-- whose slot k of a hart is
abbrev pub domain_in : Image → ℕ → ℕ → ℕ
domain_in i h k = (entry_of_slot (image_on i h).all.schedule k).domain

abbrev pub start_on : Image → ℕ → ℕ → ℕ
start_on i h k = start (image_on i h).all.schedule k

abbrev pub end_on : Image → ℕ → ℕ → ℕ
end_on i h k = slot_end (image_on i h).all.schedule k

-- the image's entries are on one hart
abbrev pub IsOnOneHart : Image → Type 0
IsOnOneHart i = harts_in i.all.schedule ≡ 1

-- the hart of a domain
abbrev pub hart_of_domain : Image → ℕ → ℕ
hart_of_domain i d = hart_for i.all.schedule d

-- ---- the machine between two events

-- how far a hart is
pub record Progress : Type 0 where
  pub slots : ℕ  -- how many of its slots have ended
  pub inside : Bool  -- whether it is in the next one

pub record Harts : Type 0 where
  pub world : World
  pub progress : Table Progress

abbrev pub progress_of : ℕ → Harts → Progress
progress_of h s = at (record { slots = 0; inside = false }) s.progress h

abbrev pub slots_of : ℕ → Harts → ℕ
slots_of h s = (progress_of h s).slots

-- how many switches a hart has had: one for each slot that ended, and one for the slot that it is in
abbrev pub switches_of : ℕ → Harts → ℕ
switches_of h s = if (progress_of h s).inside then slots_of h s + 1 else slots_of h s

unfoldable pub proceeds : ℕ → Harts → World → ℕ → Bool → Harts
proceeds h s w slots inside =
    record { world = w; progress = put s.progress h (record { slots = slots; inside = inside }) }

-- ---- events, with all guards on or with one off

-- a hart is in its slot k while its clock is below the slot's end; then the slot has ended
unfoldable pub settles : ℕ → Harts → World → ℕ → ℕ → Harts
settles h s w k end =
    if nat_lt (clock_of h w) end then proceeds h s w k true else proceeds h s w (suc k) false

-- when slot k of a hart ends: with pads the schedule says it
abbrev pub end_by : Guards → Image → ℕ → ℕ → World → ℕ
end_by g i h k w = if g.pad then end_on i h k else ended_of h w

-- else it is known, and noted, as the slot begins
abbrev pub with_end_by : Guards → Image → ℕ → ℕ → World → World
with_end_by g i h k w = if g.pad then w else with_end h w (ends_by g (image_on i h) k (clock_of h w))

-- the switch into a hart's next slot; it belongs to one of the image's entries
unfoldable pub begins : Option Guard → Image → ℕ → Harts → Harts
begins off i h s =
    let own = image_on i h in
    let g = guards_of off own in
    let k = slots_of h s in
    let place = place_on i.all.schedule h (switch_entry own.all.schedule k) in
    let w = with_end_by g i h k (noted place (cycles_on g own h k s.world) (switch_on g own h k s.world)) in
    settles h s w k (end_by g i h k w)

-- one event of the domain whose slot it is
unfoldable pub runs : Option Guard → Image → ℕ → ℕ → World → World
runs off i h k w =
    let g = guards_of off i in
    event_if g.irq g i h (domain_in i h k) (end_by g i h k w) w

unfoldable pub goes_on : Option Guard → Image → ℕ → Harts → Harts
goes_on off i h s =
    let k = slots_of h s in
    settles h s (runs off i h k s.world) k (end_by (guards_of off i) i h k s.world)

-- a hart's next event
unfoldable pub next_by : Option Guard → Image → ℕ → Harts → Harts
next_by off i h s = if (progress_of h s).inside then goes_on off i h s else begins off i h s

-- the next event of each of these harts, one after the other
unfoldable pub after_by : Option Guard → Image → List ℕ → Harts → Harts
after_by off i [] s = s
after_by off i (h ∷ hs) s = after_by off i hs (next_by off i h s)

-- so many harts, each with nothing in its caches
unfoldable pub all_cold : Image → ℕ → World
all_cold i zero = no_harts i
all_cold i (suc h) = with_cold i h (all_cold i h)

-- the image's harts after events in this order
unfoldable pub harts_by : Option Guard → Image → List ℕ → Harts
harts_by off i order =
    after_by off i order (record { world = all_cold i (harts_in i.all.schedule); progress = empty })

-- with all guards on: the machine of which isolation is proved
abbrev pub next : Image → ℕ → Harts → Harts
next = next_by None

abbrev pub after : Image → List ℕ → Harts → Harts
after = after_by None

abbrev pub harts : Image → List ℕ → Harts
harts = harts_by None

-- ---- in a slot, and between two

abbrev pub IsInSlot : ℕ → Harts → Type 0
IsInSlot h s = (progress_of h s).inside ≡ true

abbrev pub IsOutside : ℕ → Harts → Type 0
IsOutside h s = (progress_of h s).inside ≡ false

-- whose slot hart h is in, or else has next
abbrev pub domain_on : Image → ℕ → Harts → ℕ
domain_on i h s = domain_in i h (slots_of h s)

abbrev pub owner_on : Image → ℕ → Harts → Own
owner_on i h s = own_of i (domain_on i h s)

-- what that domain sees and changes there
abbrev pub local_on : Image → ℕ → Harts → Local
local_on i h s = part_of h (domain_on i h s) s.world

-- when that slot ends
abbrev pub slot_end_on : Image → ℕ → Harts → ℕ
slot_end_on i h s = end_on i h (slots_of h s)

-- ---- what is seen

unfoldable pub view_on : Image → ℕ → Harts → View
view_on i d s = view_in i d s.world

-- the same domain alone, by the entries of its hart, where this came in boxes as its slots began
unfoldable pub view_mailed_on : Image → ℕ → List Arrival → ℕ → View
view_mailed_on i d came k = view_mailed (public_on i.all (hart_of_domain i d)) (own_of i d) d came k

-- and where nothing came
abbrev pub view_alone_on : Image → ℕ → ℕ → View
view_alone_on i d k = view_mailed_on i d [] k
