-- The laws of shared caches, each as a type; they are the clauses of the functions of `laws`.
use Rattle.std.specs.Prelude.{◌≡◌, ℕ, ◌+◌, ◌-◌, ◌/◌, ◌<◌, ◌≤◌, Bool, true, false, List, ◌++◌, Option, None}
use Rattle.set_cache.specs.Cache.{Sets}
use Rattle.kernel_clone.specs.Footprints.{Layout, IsLayout}
use Rattle.l2_colour.specs.Colours.{IsColoured, colours_of}
use Rattle.pad_bound.specs.Bound.{worst_instruction, worst_operation, worst_leave, worst_prefetch, worst_flush, worst_enter, bound_of}
use Rattle.pad_bound.specs.Worst.{IsCloneOf}
use Rattle.mem_system.specs.Hierarchy.{Hierarchy}
use Rattle.mem_system.specs.Cost.{Touch, Caches, cold, and_then, touched_all}
use Rattle.mem_system.specs.Operations.{shared_region, prefetch, leave_if, switch}
use Rattle.mem_system.specs.Sharing.{IsRegion, IsSharing, HasRoom, AreApart, MayTouchAll, SameSets, Resident, kept_at, KeepsSharedAlone, SameKernelPlaces, KernelIsClean, OwnDirty, settled, BesideCaches, BesideTouched}
use Rattle.mem_system.specs.Worst.{machine_shape, worst_touches, HasWays, IsWithin}

-- touches after touches
abbrev pub AppendLaw : Type 0
AppendLaw = (h : Hierarchy) (pinned : Bool) (c : Caches) (ts us : List Touch)
    → touched_all h pinned c (ts ++ us)
    ≡ and_then (touched_all h pinned c ts) (λ k. touched_all h pinned k us)

-- ---- a domain's touches

-- cost the same among others as alone, where the kernel's lines are always there
abbrev pub BesideLaw : Type 0
BesideLaw =
    (h : Hierarchy) (own : ℕ → Bool) (region : List ℕ) (first : Sets) (ts : List Touch) (c alone : Caches)
    → IsSharing h own region → MayTouchAll h own region ts → BesideCaches h own region first c alone
    → BesideTouched h own region first (touched_all h false c ts) (touched_all h true alone ts)

-- leave the sets of another's colours, where the dirty lines are its own
abbrev pub OthersLaw : Type 0
OthersLaw = (h : Hierarchy) (own others : ℕ → Bool) (region : List ℕ) (ts : List Touch) (c : Caches)
    → IsSharing h own region → AreApart own others → MayTouchAll h others region ts → OwnDirty h others c.core
    → SameSets h own (touched_all h false c ts).caches.l2 c.l2

-- so they stay, since it stores to its own lines alone
abbrev pub OwnDirtyLaw : Type 0
OwnDirtyLaw =
    (h : Hierarchy) (own : ℕ → Bool) (region : List ℕ) (pinned : Bool) (ts : List Touch) (c : Caches)
    → MayTouchAll h own region ts → OwnDirty h own c.core
    → OwnDirty h own (touched_all h pinned c ts).caches.core

-- and the shared lines in place
abbrev pub StaysResidentLaw : Type 0
StaysResidentLaw = (h : Hierarchy) (own : ℕ → Bool) (region : List ℕ) (ts : List Touch) (c : Caches)
    → IsSharing h own region → MayTouchAll h own region ts → Resident h region c.l2
    → Resident h region (touched_all h false c ts).caches.l2

-- ---- the prefetch

-- leaves the sets of all domains but of the one whose lines are dirty, some of which it writes back
abbrev pub PrefetchLaw : Type 0
PrefetchLaw = (h : Hierarchy) (own others : ℕ → Bool) (region : List ℕ) (c : Caches) → IsSharing h own region
    → AreApart own others → OwnDirty h others c.core
    → SameSets h own (touched_all h false c (prefetch region)).caches.l2 c.l2

-- whose sets are after the flush as if there had been none
abbrev pub SettledLaw : Type 0
SettledLaw =
    (h : Hierarchy) (own : ℕ → Bool) (region : List ℕ) (c : Caches) → IsSharing h own region → 0 < h.l1d.count
    → SameSets h own (settled h (touched_all h false c (prefetch region)).caches) (settled h c)

-- and the shared lines in place
abbrev pub PrefetchStaysLaw : Type 0
PrefetchStaysLaw = (h : Hierarchy) (own : ℕ → Bool) (region : List ℕ) (c : Caches) → IsSharing h own region
    → Resident h region c.l2
    → Resident h region (touched_all h false c (prefetch region)).caches.l2

-- from caches that hold nothing it brings every shared line into the second level, under any policy: a set has a way for
-- each of its lines, and a miss fills an empty way first
abbrev pub ResidentLaw : Type 0
ResidentLaw = (h : Hierarchy) (region : List ℕ) → HasRoom h region
    → Resident h region (touched_all h false (cold h) (prefetch region)).caches.l2

-- the shared region of a clone has colour 0, and no set has more of its lines than the frames that it has begun
abbrev pub RegionLaw : Type 0
RegionLaw =
    (h : Hierarchy) (l : Layout) → IsLayout l → IsColoured h.line_size h.l2.count → l.line ≡ h.line_size
    → l.colours ≡ colours_of h.line_size h.l2.count → (l.shared + 4095) / 4096 ≤ h.l2.ways
    → IsRegion h (shared_region l) × HasRoom h (shared_region l)

-- ---- the sets of colour 0, the kernel's

-- before anything is touched no set keeps a line
abbrev pub EmptyLaw : Type 0
EmptyLaw = (h : Hierarchy) (s way : ℕ) → kept_at h (cold h).l2 s way ≡ None

-- a domain's touches bring no line of its own into them
abbrev pub SharedAloneLaw : Type 0
SharedAloneLaw = (h : Hierarchy) (own : ℕ → Bool) (region : List ℕ) (pinned : Bool) (ts : List Touch)
    (c : Caches) → IsSharing h own region → MayTouchAll h own region ts → KeepsSharedAlone h region c.l2
    → KeepsSharedAlone h region (touched_all h pinned c ts).caches.l2

-- and the prefetch none that isn't shared
abbrev pub PrefetchAloneLaw : Type 0
PrefetchAloneLaw = (h : Hierarchy) (own : ℕ → Bool) (region : List ℕ) (pinned : Bool) (c : Caches)
    → IsSharing h own region → KeepsSharedAlone h region c.l2
    → KeepsSharedAlone h region (touched_all h pinned c (prefetch region)).caches.l2

-- where they keep all shared lines, and a domain's dirty lines are its own, its touches leave their places as they are: each
-- of a line that stands there hits. The prefetch is such touches of any domain
abbrev pub PlacesStayLaw : Type 0
PlacesStayLaw = (h : Hierarchy) (own : ℕ → Bool) (region : List ℕ) (ts : List Touch) (c : Caches)
    → IsSharing h own region → MayTouchAll h own region ts → OwnDirty h own c.core → Resident h region c.l2
    → SameKernelPlaces h (touched_all h false c ts).caches.l2 c.l2

-- ---- no line of colour 0 is ever dirty

-- at first none is
abbrev pub ColdIsCleanLaw : Type 0
ColdIsCleanLaw = (h : Hierarchy) → KernelIsClean h (cold h)

-- and a domain's touches make none so: so the kernel's shared lines cost the same whatever domains wrote
abbrev pub StaysCleanLaw : Type 0
StaysCleanLaw =
    (h : Hierarchy) (own : ℕ → Bool) (region : List ℕ) (pinned : Bool) (ts : List Touch) (c : Caches)
    → IsSharing h own region → MayTouchAll h own region ts → KernelIsClean h c
    → KernelIsClean h (touched_all h pinned c ts).caches

-- ---- what it costs at worst

abbrev pub WorstLaw : Type 0
WorstLaw = (h : Hierarchy) (pinned : Bool) (ts : List Touch) (c : Caches) → HasWays h c
    → IsWithin h (worst_touches h ts) (touched_all h pinned c ts)

-- a switch, part by part, where no line of the kernel's colour is dirty, and who leaves makes none so
abbrev pub SwitchLaw : Type 0
SwitchLaw =
    (h : Hierarchy) (own : ℕ → Bool) (pinned : Bool) (shared calls : ℕ) (out : Option Layout) (into : Layout)
    (c : Caches)
    → HasWays h c → KernelIsClean h c → IsSharing h own (shared_region into)
    → MayTouchAll h own (shared_region into) (leave_if h.costs out)
    → IsCloneOf (machine_shape h shared calls) into
    → let s = machine_shape h shared calls in
    IsWithin h (worst_leave s + worst_prefetch s + worst_flush s + worst_enter s)
    (touched_all h pinned c (switch h.costs out into))

-- begun past a slot's end by less than the largest step of the domain that leaves, it is done by that domain's bound
abbrev pub OnTimeLaw : Type 0
OnTimeLaw =
    (h : Hierarchy) (own : ℕ → Bool) (pinned : Bool) (shared calls old_end now : ℕ) (out : Option Layout)
    (into : Layout) (c : Caches)
    → HasWays h c → KernelIsClean h c → IsSharing h own (shared_region into)
    → MayTouchAll h own (shared_region into) (leave_if h.costs out)
    → let s = machine_shape h shared calls in
    IsCloneOf s into → old_end ≤ now → now < old_end + (worst_instruction s + worst_operation s)
    → now + (touched_all h pinned c (switch h.costs out into)).cost - old_end ≤ bound_of s
