-- The words of the laws: what is alike for a domain, in two states of machines, and what the kernel has of it.
use Rattle.std.specs.List.{All}
use Rattle.mail_slots.specs.Boxes.{Boxes}
use Rattle.mail_slots.specs.Sides.{own_side, others_side}
use Rattle.std.specs.Prelude.{◌≡◌, ◌≢◌, ℕ, Bool, false, IsTrue, ◌<◌, ◌≤◌, ◌+◌, List, [], ◌∷◌, length, Option, Some, None}
use Rattle.phys_mem.specs.Mem.{Mem, frame_at}
use Rattle.kernel_clone.specs.Footprints.{IsLayout}
use Rattle.pad_bound.specs.Bound.{MachineShape, worst_instruction, worst_operation, bound_of}
use Rattle.mem_system.specs.Cost.{Touch, Caches}
use Rattle.mem_system.specs.Sharing as sharing
use Rattle.mem_system.specs.Worst.{HasWays}
use Rattle.call_table.specs.Domain.{Dom}
use Rattle.cap_table.specs.Owning.{IsUnnamed}
use Rattle.call_table.specs.Claims.{IsEstate, free_frames}
use Rattle.call_table.specs.Laws.{Kept, HasPageTables}
use Rattle.call_table.specs.Rights.{AreWithin}
use Rattle.frame_colours.specs.Colours.{has}
use Rattle.hardware_check.specs.Hardware.{Hardware}
use Rattle.sched_table.specs.declared.schedule.Entry.{Entry}
use Rattle.sched_table.specs.Schedule.{entry_in, switch_entry}
use Rattle.image_check.specs.Own.{Own}
use Rattle.image_check.specs.Image.{Image, own_of}
use Rattle.world_view.specs.Frames.{own_frame}
use Rattle.world_view.specs.Kernel.{estate, layout}
use Rattle.sched_table.specs.Schedule.{last_end, outgoing}
use Rattle.world_view.specs.Cost.{hierarchy, region, own_colour}
use Rattle.image_check.specs.Pads.{shape_for}
use Rattle.world_view.specs.Event.{Storage}
use Rattle.world_view.specs.Machine.{caches_of, clock_of, Local, World, dom_of, part_of}

-- ---- what an accepted image gives

abbrev pub IsDomain : Image → ℕ → Type 0
IsDomain i d = d < length i.owns

-- no box leads to the domain
abbrev pub HasNoMail : Image → ℕ → Type 0
HasNoMail i d = All (λ box. box.1 ≢ d) i.all.mail

-- what the bound on a switch out of a domain's slot depends on
abbrev pub own_shape : Hardware → Own → MachineShape
own_shape p o = shape_for p o.calls

-- the most cycles that one step of the domain takes: an instruction, and the operation that it calls
abbrev pub largest_step : Hardware → Own → ℕ
largest_step p o = worst_instruction (own_shape p o) + worst_operation (own_shape p o)

-- the most cycles from the end of its slot to the end of the next switch's work
abbrev pub bound : Hardware → Own → ℕ
bound p o = bound_of (own_shape p o)

-- whose slot ended before switch k: at the boot the last entry's domain counts so
abbrev pub ended_own : Image → ℕ → Own
ended_own i k = own_of i (entry_in i.all.schedule (switch_entry i.all.schedule k)).domain

-- equal public parts, and equal own parts of d
pub record Agree (i j : Image) (d : ℕ) : Type 0 where
  pub all : i.all ≡ j.all
  pub own : own_of i d ≡ own_of j d

-- ---- a domain's part of memory and caches

-- the frame is of the domain's pool
abbrev pub IsOwnFrame : Hardware → Own → ℕ → Type 0
IsOwnFrame p o f = IsTrue (own_frame p o f)

-- equal in the domain's frames
abbrev pub SameFrames : Hardware → Own → Mem → Mem → Type 0
SameFrames p o m k = (f : ℕ) → IsOwnFrame p o f → frame_at m f ≡ frame_at k f

-- equal in the domain's part of the second level: the sets of its colours
abbrev pub SameSets : Hardware → Own → Caches → Caches → Type 0
SameSets p o c k = sharing.SameSets (hierarchy p) (own_colour o) c.l2 k.l2

-- equal in what the domain put into boxes and in what it may take
abbrev pub SameSide : Own → Boxes → Boxes → Type 0
SameSide o boxes others = own_side o.number boxes ≡ own_side o.number others

-- equal in all three
pub record SamePart (p : Hardware) (o : Own) (s a : Local) : Type 0 where
  pub frames : SameFrames p o s.storage.mem a.storage.mem
  pub side : SameSide o s.storage.boxes a.storage.boxes
  pub sets : SameSets p o s.caches a.caches

-- all lines that the domains share are in the second level
abbrev pub Resident : Hardware → Caches → Type 0
Resident p c = sharing.Resident (hierarchy p) (region p) c.l2

-- the second level's sets of colour 0, the kernel's, keep lines that the domains share alone
abbrev pub KeepsSharedAlone : Hardware → Caches → Type 0
KeepsSharedAlone p c = sharing.KeepsSharedAlone (hierarchy p) (region p) c.l2

-- each dirty line of the first level is one of the domain's own
abbrev pub OwnDirty : Hardware → Own → Caches → Type 0
OwnDirty p o c = sharing.OwnDirty (hierarchy p) (own_colour o) c.core

-- no line of the kernel's colour, which is 0, is dirty
abbrev pub KernelIsClean : Hardware → Caches → Type 0
KernelIsClean p c = sharing.KernelIsClean (hierarchy p) c

-- what a domain, and the kernel for it, may touch: lines of its colours, and loads of what all share
abbrev pub MayAll : Hardware → Own → List Touch → Type 0
MayAll p o touches = sharing.MayTouchAll (hierarchy p) (own_colour o) (region p) touches

-- ---- what the kernel has of a domain

-- its estate is one, and so is its kernel clone, whose frames are the domain's own; its colours are not the kernel's, which
-- the shared lines have
pub record IsKernel (p : Hardware) (o : Own) : Type 0 where
  pub has_estate : IsEstate (estate p o)
  pub has_layout : IsLayout (layout p o)
  pub text : IsOwnFrame p o (layout p o).text
  pub more_text : IsOwnFrame p o (layout p o).more_text
  pub stack : IsOwnFrame p o (layout p o).stack
  pub data_frame : IsOwnFrame p o (layout p o).data_frame
  pub shares : sharing.IsSharing (hierarchy p) (own_colour o) (region p)

-- two parties: the kernel has what it should of each, and no colour and no number is of both
pub record AreParties (p : Hardware) (o other : Own) : Type 0 where
  pub kernel : IsKernel p o
  pub others_kernel : IsKernel p other
  pub apart : sharing.AreApart (own_colour o) (own_colour other)
  pub numbers : o.number ≢ other.number

-- a frame that the domain has for good, in this state of it: its own, named by no capability, and never free
pub record IsForGood (p : Hardware) (o : Own) (d : Dom) (f : ℕ) : Type 0 where
  pub own : IsOwnFrame p o f
  pub unnamed : IsUnnamed d.caps f
  pub taken : has (free_frames (estate p o) d.caps) f ≡ false

-- the facts of the domain's frames and page tables hold of this state of it, in this memory
abbrev pub HasFacts : Hardware → Own → Dom → Storage → Type 0
HasFacts p o d s = Kept (estate p o) d s.mem

-- no leaf's rights are wider than those of the capability through which its page is mapped
abbrev pub HasRights : Hardware → Own → Dom → Storage → Type 0
HasRights p o d s = AreWithin (estate p o) d s.mem

-- its page tables reach its own frames alone, each table once, and no page lies on the tables
abbrev pub ReachesOwn : Hardware → Own → Dom → Storage → Type 0
ReachesOwn p o d s = HasPageTables (estate p o) d s.mem

-- ---- the whole machine beside the domain alone, within its slot

-- memory: equal in the domain's frames; outside them the whole machine's is still as at first. Boxes: equal in the domain's side
-- of them; all else of them is as at first
pub record BesideStorage (p : Hardware) (o : Own) (first s a : Storage) : Type 0 where
  pub same : SameFrames p o s.mem a.mem
  pub outside : (f : ℕ) → own_frame p o f ≡ false → frame_at s.mem f ≡ frame_at first.mem f
  pub side : SameSide o s.boxes a.boxes
  pub others : others_side o.number s.boxes ≡ others_side o.number first.boxes

-- the caches likewise
abbrev pub BesideCaches : Hardware → Own → Caches → Caches → Caches → Type 0
BesideCaches p o first c k = sharing.BesideCaches (hierarchy p) (own_colour o) (region p) first.l2 c k

pub record Beside (p : Hardware) (o : Own) (first s a : Local) : Type 0 where
  pub kernel : IsKernel p o
  pub dom : s.dom ≡ a.dom
  pub facts : HasFacts p o s.dom s.storage
  pub storage : BesideStorage p o first.storage s.storage a.storage
  pub caches : BesideCaches p o first.caches s.caches a.caches
  pub clock : s.clock ≡ a.clock

-- ---- related states

-- inside a slot of the domain
pub record Within (p : Hardware) (o : Own) (s a : Local) : Type 0 where
  pub dom : s.dom ≡ a.dom
  pub part : SamePart p o s a
  pub core : s.caches.core ≡ a.caches.core
  pub clock : s.clock ≡ a.clock

-- outside the domain's slots
pub record Apiece (p : Hardware) (o : Own) (s a : Local) : Type 0 where
  pub dom : s.dom ≡ a.dom
  pub part : SamePart p o s a

-- domain d's own state, its part of memory and of the caches are in the later world as they were
pub record Untouched (p : Hardware) (o : Own) (d : ℕ) (later w : World) : Type 0 where
  pub dom : dom_of later d ≡ dom_of w d
  pub part : SamePart p o (part_of 0 d later) (part_of 0 d w)

-- ---- time

-- the colours of who leaves: none, where nobody does
abbrev pub left_colours : Image → Option ℕ → ℕ → Bool
left_colours i None = λ _. false
left_colours i (Some d) = own_colour (own_of i d)

-- before switch k of a hart its clock is at its last slot's end, or past it by less than the largest step of that slot's
-- domain; the caches have their ways, each dirty line of the first level is of who leaves, and none is of the kernel's colour
pub record InTime (i : Image) (h k : ℕ) (w : World) : Type 0 where
  pub over : last_end i.all.schedule k ≤ clock_of h w
  pub soon : clock_of h w < last_end i.all.schedule k + largest_step i.all.hardware (ended_own i k)
  pub ways : HasWays (hierarchy i.all.hardware) (caches_of h w)
  pub dirty : sharing.OwnDirty (hierarchy i.all.hardware) (left_colours i (outgoing i.all.schedule k))
      (caches_of h w).core
  pub clean : KernelIsClean i.all.hardware (caches_of h w)

-- each switch's cycles are at most its entry's pad
abbrev pub AllWithinPads : List Entry → List (ℕ × ℕ) → Type 0
AllWithinPads es [] = Unit {0}
AllWithinPads es (u ∷ us) = (u.1 ≤ (entry_in es u.0).pad) × AllWithinPads es us
