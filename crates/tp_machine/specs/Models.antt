-- How contracts see the code's machine: the image that it runs, and what it is after its slots, with all guards on.
use Rattle.std.specs.Prelude.{ℕ}
use Rattle.image_record.specs.Record.{Raw}
use Rattle.image_check.specs.Image.{Image, image_from}
use Rattle.world_view.specs.Machine.{World, whole}

-- an image that has run for so many slots
pub record Ran : Type 0 where
  pub record_of : Raw
  pub slots : ℕ

abbrev pub image_of : Ran → Image
image_of r = image_from r.record_of

abbrev pub world_of : Ran → World
world_of r = whole (image_of r) r.slots
