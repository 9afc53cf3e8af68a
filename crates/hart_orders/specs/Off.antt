-- What a guard that is off leaves out of the caches, and of which images one may be off.
use Rattle.std.specs.Prelude.{◌≡◌, ◌⊎◌, Option, Some, None}
use Rattle.guards.specs.declared.Guard.{Guard}
use Rattle.guards.specs.declared.Guard.TheVariants as guard
use Rattle.hardware_check.specs.Hardware.{Hardware}
use Rattle.mem_system.specs.Hierarchy.{Hierarchy}
use Rattle.image_check.specs.Image.{Image}
use Rattle.world_view.specs.Cost.{hierarchy}
use Rattle.world_view.specs.Machine.{uncoloured}
use Rattle.world_view.specs.Harts.{IsOnOneHart}

-- the hierarchy, with all guards on or with this one off
abbrev pub levels_by : Option Guard → Hardware → Hierarchy
levels_by None p = hierarchy p
levels_by (Some guard.Colour) p = uncoloured p
levels_by (Some guard.Flush) p = hierarchy p
levels_by (Some guard.Prefetch) p = hierarchy p
levels_by (Some guard.Pad) p = hierarchy p
levels_by (Some guard.Clone) p = hierarchy p
levels_by (Some guard.Irq) p = hierarchy p

-- a guard is off of an image of one hart alone
abbrev pub IsServed : Option Guard → Image → Type 0
IsServed off i = (off ≡ None) ⊎ IsOnOneHart i
