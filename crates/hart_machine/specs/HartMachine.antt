-- An image's harts as a machine: what each of them has, and what their switches share.
use Rattle.std.specs.Prelude.{◌≡◌, ◌≢◌, ℕ, false, List, [], map}
use Rattle.event_orders.specs.Machine.{Machine}
use Rattle.phys_mem.specs.Mem.{frame_at}
use Rattle.set_cache.specs.Cache.{set_at}
use Rattle.l2_colour.specs.Colours.{colour_of_set}
use Rattle.mem_system.specs.Sharing.{is_own_set, SameKernelPlaces}
use Rattle.mail_slots.specs.Boxes.{Mailbox, Boxes}
use Rattle.image_check.specs.Image.{Image, own_of}
use Rattle.sched_table.specs.Schedule.{harts_in}
use Rattle.world_view.specs.Frames.{own_frame}
use Rattle.world_view.specs.Cost.{hierarchy, own_colour}
use Rattle.world_view.specs.Machine.{World, hart_of, clock_of, part_of}
use Rattle.world_view.specs.Relations.{IsDomain, Apiece}
use Rattle.world_view.specs.Harts.{Harts, start_on, end_on, hart_of_domain, progress_of, slots_of, next, harts}
use Rattle.world_view.specs.HartLaws.{AreHartsOf}

-- after some order of events
pub record IsReached (i : Image) (s : Harts) : Type 0 where
  pub order : List ℕ
  pub of_harts : AreHartsOf i order
  pub comes_to : s ≡ harts i order

-- equal in all that a hart and its domains have: its core and clock, and each domain's state, frames, side of the boxes and sets
pub record SameParts (i : Image) (h : ℕ) (w v : World) : Type 0 where
  pub hart : hart_of h w ≡ hart_of h v
  pub domains : (d : ℕ) → IsDomain i d → hart_of_domain i d ≡ h
      → Apiece i.all.hardware (own_of i d) (part_of h d w) (part_of h d v)

pub record SameHart (i : Image) (h : ℕ) (s t : Harts) : Type 0 where
  pub parts : SameParts i h s.world t.world
  pub progress : progress_of h s ≡ progress_of h t

-- a frame of no domain, and a set of no domain's colours, nor of the kernel's
abbrev pub IsNobodysFrame : Image → ℕ → Type 0
IsNobodysFrame i f = (d : ℕ) → IsDomain i d → own_frame i.all.hardware (own_of i d) f ≡ false

pub record IsNobodysSet (i : Image) (x : ℕ) : Type 0 where
  pub not_kernel : colour_of_set (hierarchy i.all.hardware).line_size x ≢ 0
  pub none : (d : ℕ) → IsDomain i d → is_own_set (hierarchy i.all.hardware) (own_colour (own_of i d)) x ≡ false

-- equal in them, and in the places of the kernel's sets. Not in the policy's lists of these: all harts' calls and deliveries
-- load the shared lines that stand there, and may do so in another order
pub record SameNobodys (i : Image) (w v : World) : Type 0 where
  pub frames : (f : ℕ) → IsNobodysFrame i f → frame_at w.storage.mem f ≡ frame_at v.storage.mem f
  pub sets : (x : ℕ) → IsNobodysSet i x
      → set_at (hierarchy i.all.hardware).l2.ways w.l2 x ≡ set_at (hierarchy i.all.hardware).l2.ways v.l2 x
  pub kernels : SameKernelPlaces (hierarchy i.all.hardware) w.l2 v.l2

-- of a box: whom it leads from and to, and what waits in it
abbrev pub waiting_part : Mailbox → Mailbox
waiting_part b = record b { out = []; inbox = [] }

unfoldable pub waiting : Boxes → Boxes
waiting boxes = map waiting_part boxes

-- equal in what switches alone write, which is what each took and what came with it, in their order, and what waits in boxes;
-- and in what is no domain's
pub record SameShared (i : Image) (s t : Harts) : Type 0 where
  pub used : s.world.used ≡ t.world.used
  pub came : s.world.came ≡ t.world.came
  pub waiting : waiting s.world.storage.boxes ≡ waiting t.world.storage.boxes
  pub nobodys : SameNobodys i s.world t.world

abbrev pub machine_of : Image → Machine
machine_of i = record {
  World = Harts;
  harts = harts_in i.all.schedule;
  next = next i;
  clock = λ h s. clock_of h s.world;
  slots = slots_of;
  inside = λ h s. (progress_of h s).inside;
  start = start_on i;
  end = end_on i;
  IsSound = IsReached i;
  Same = SameHart i;
  SameShared = SameShared i;
}
