-- What a domain has to have, to run alone.
use Rattle.std.specs.Prelude.{◌≡◌, ℕ, ◌<◌, ◌≤◌, [], ◌∷◌, length}
use Rattle.frame_colours.specs.Colours.{AreDisjoint}
use Rattle.sched_table.specs.Schedule.{entry_in, hart_for, IsSchedule}
use Rattle.pad_bound.specs.Bound.{bound_of}
use Rattle.hardware_check.specs.Hardware.{IsHardware, colours_of}
use Rattle.image_check.specs.Public.{Public}
use Rattle.image_check.specs.Own.{Own}
use Rattle.image_check.specs.Image.{Image, own_of}
use Rattle.image_check.specs.Laws.{Runnable}
use Rattle.image_check.specs.Pads.{shape_for}
use Rattle.world_view.specs.Machine.{Local, alone}
use Rattle.world_view.specs.Harts.{public_on}
use Rattle.domain_open.specs.Placing.{HasPool}

-- what all may know, with the entries of the domain's hart alone
abbrev pub public_for : Public → ℕ → Public
public_for p d = public_on p (hart_for p.schedule d)

-- the domain alone, after so many slots of its hart
abbrev pub alone_after : Public → Own → ℕ → ℕ → Local
alone_after p o d k = alone (public_for p d) o d k

-- the public part is that of an accepted image, and the own part that of its domain d
pub record IsOf (p : Public) (o : Own) (d : ℕ) : Type 0 where
  pub image : Image
  pub runnable : Runnable image
  pub domain : d < length image.owns
  pub public : p ≡ image.all
  pub own : o ≡ own_of image d

-- an accepted image gives this to each of its domains, by its number and with the entries of its hart alone
pub record RunsAlone (p : Public) (o : Own) (d : ℕ) : Type 0 where
  pub hardware : IsHardware p.hardware
  pub schedule : IsSchedule p.schedule
  pub padded : (e : ℕ) → e < length p.schedule → (entry_in p.schedule e).domain ≡ d
      → bound_of (shape_for p.hardware o.calls) ≤ (entry_in p.schedule e).pad
  pub colours : AreDisjoint (colours_of p.hardware) (o.colours ∷ [])
  pub pool : HasPool p.hardware o
  pub boxes : length p.mail ≤ 64
