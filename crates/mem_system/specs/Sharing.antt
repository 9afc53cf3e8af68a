-- How domains share the second level: each has the sets of its colours, and the kernel's shared lines stand in those of colour 0.
use Rattle.std.specs.Prelude.{◌≡◌, ◌≢◌, ℕ, ◌%◌, ◌==◌, ◌<◌, ◌≤◌, ◌⊎◌, Bool, false, IsTrue, List, [], ◌∷◌, length, slice_index, slice_index_or, count_by, All, Option, Some, None}
use Rattle.set_cache.specs.Cache.{Sets, set_at, places_at, EachDirty}
use Rattle.set_cache.specs.declared.KeptLine.{KeptLine}
use Rattle.l2_colour.specs.Colours.{IsColoured, colour_of_set}
use Rattle.mem_system.specs.Hierarchy.{Hierarchy, colour_of_line}
use Rattle.mem_system.specs.Cost.{Touch, Fetch, Load, Store, WalkRead, Look, Branch, Jump, EmptyTlb, Flush, Charge, Core, Caches, Touched, touched}
use Rattle.mem_system.specs.TouchLaws.{holds}

-- ---- whose lines and sets; a domain's colours are a test

abbrev pub IsOwnLine : Hierarchy → (ℕ → Bool) → ℕ → Type 0
IsOwnLine h own line = IsTrue (own (colour_of_line h line))

abbrev pub is_own_set : Hierarchy → (ℕ → Bool) → ℕ → Bool
is_own_set h own s = own (colour_of_set h.line_size s)

abbrev pub IsOwnSet : Hierarchy → (ℕ → Bool) → ℕ → Type 0
IsOwnSet h own s = IsTrue (is_own_set h own s)

-- a line of the shared region
abbrev pub IsShared : List ℕ → ℕ → Type 0
IsShared region line = (i : ℕ) × (i < length region) × (line ≡ slice_index region i)

-- ---- what is true of a hierarchy, a shared region and a domain's colours

-- the shared region's lines have colour 0, which is the kernel's
abbrev pub IsRegion : Hierarchy → List ℕ → Type 0
IsRegion h region = (i : ℕ) → i < length region → colour_of_line h (slice_index region i) ≡ 0

pub record IsSharing (h : Hierarchy) (own : ℕ → Bool) (region : List ℕ) : Type 0 where
  pub coloured : IsColoured h.line_size h.l2.count
  pub not_kernel : own 0 ≡ false
  pub kernel : IsRegion h region

-- no set of the second level has more lines of the region than ways
abbrev pub HasRoom : Hierarchy → List ℕ → Type 0
HasRoom h region = (s : ℕ) → count_by (λ line. line % h.l2.count == s) region ≤ h.l2.ways

-- no colour of the one is a colour of the other
abbrev pub AreApart : (ℕ → Bool) → (ℕ → Bool) → Type 0
AreApart own others = (colour : ℕ) → IsTrue (own colour) → others colour ≡ false

-- ---- what a domain, and the kernel for it, may touch: its own lines, and loads of the shared ones

abbrev pub MayTouch : Hierarchy → (ℕ → Bool) → List ℕ → Touch → Type 0
MayTouch h own region (Fetch line) = IsOwnLine h own line
MayTouch h own region (Load line) = IsOwnLine h own line ⊎ IsShared region line
MayTouch h own region (Store line) = IsOwnLine h own line
MayTouch h own region (WalkRead line) = IsOwnLine h own line
MayTouch h own region (Look page reads found) = All (IsOwnLine h own) reads
MayTouch h own region (Branch pc taken target) = Unit {0}
MayTouch h own region (Jump pc target) = Unit {0}
MayTouch h own region EmptyTlb = Unit {0}
MayTouch h own region Flush = Unit {0}
MayTouch h own region (Charge cycles) = Unit {0}

abbrev pub MayTouchAll : Hierarchy → (ℕ → Bool) → List ℕ → List Touch → Type 0
MayTouchAll h own region [] = Unit {0}
MayTouchAll h own region (t ∷ ts) = MayTouch h own region t × MayTouchAll h own region ts

-- ---- dirty lines

-- each dirty line of the first level is the domain's own
abbrev pub OwnDirty : Hierarchy → (ℕ → Bool) → Core → Type 0
OwnDirty h own core = EachDirty (IsOwnLine h own) h.l1d core.l1d

-- the second level when the dirty lines of the first have been written back: each that it holds has a mark
abbrev pub settled : Hierarchy → Caches → Sets
settled h c = (touched h false c Flush).caches.l2

-- ---- two second levels

-- equal in the sets of the domain's colours
abbrev pub SameSets : Hierarchy → (ℕ → Bool) → Sets → Sets → Type 0
SameSets h own l2 other = (s : ℕ) → IsOwnSet h own s → set_at h.l2.ways l2 s ≡ set_at h.l2.ways other s

-- equal in the sets that have neither the domain's colours nor the kernel's
abbrev pub SameOutside : Hierarchy → (ℕ → Bool) → Sets → Sets → Type 0
SameOutside h own l2 first = (s : ℕ) → is_own_set h own s ≡ false → colour_of_set h.line_size s ≢ 0
    → set_at h.l2.ways l2 s ≡ set_at h.l2.ways first s

-- every shared line stands in it
abbrev pub Resident : Hierarchy → List ℕ → Sets → Type 0
Resident h region l2 = (i : ℕ) → i < length region → IsTrue (holds h.l2 l2 (slice_index region i))

-- ---- the sets of the kernel's colour

-- what way `way` of set `s` keeps
abbrev pub kept_at : Hierarchy → Sets → ℕ → ℕ → Option KeptLine
kept_at h l2 s way = slice_index_or (set_at h.l2.ways l2 s).places way None

-- the sets of colour 0 keep lines of the shared region alone
abbrev pub KeepsSharedAlone : Hierarchy → List ℕ → Sets → Type 0
KeepsSharedAlone h region l2 = (s way : ℕ) (line : KeptLine) → colour_of_set h.line_size s ≡ 0
    → kept_at h l2 s way ≡ Some line → IsShared region line.number

-- in each of them the same lines stand in the same ways, with the same marks, whatever the policy's list
abbrev pub SameKernelPlaces : Hierarchy → Sets → Sets → Type 0
SameKernelPlaces h l2 other = (s : ℕ) → colour_of_set h.line_size s ≡ 0
    → places_at h.l2.ways l2 s ≡ places_at h.l2.ways other s

-- no line of the kernel's colour is dirty: none in the first level, and none that the sets of that colour keep in the second
pub record KernelIsClean (h : Hierarchy) (c : Caches) : Type 0 where
  pub core : EachDirty (λ line. colour_of_line h line ≢ 0) h.l1d c.core.l1d
  pub l2 : (s way : ℕ) (line : KeptLine) → colour_of_set h.line_size s ≡ 0 → kept_at h c.l2 s way ≡ Some line
      → line.dirty ≡ false

-- ---- the whole machine's caches beside those of the domain alone

pub record BesideL2 (h : Hierarchy) (own : ℕ → Bool) (region : List ℕ) (first l2 alone : Sets) : Type 0 where
  pub same : SameSets h own l2 alone
  pub resident : Resident h region l2
  pub outside : SameOutside h own l2 first

pub record BesideCaches (h : Hierarchy) (own : ℕ → Bool) (region : List ℕ) (first : Sets) (c alone : Caches)
    : Type 0 where
  pub core : c.core ≡ alone.core
  pub dirty : OwnDirty h own c.core
  pub l2 : BesideL2 h own region first c.l2 alone.l2

-- at equal cost
pub record BesideTouched (h : Hierarchy) (own : ℕ → Bool) (region : List ℕ) (first : Sets) (r alone : Touched)
    : Type 0 where
  pub cost : r.cost ≡ alone.cost
  pub caches : BesideCaches h own region first r.caches alone.caches
