-- How contracts see the machine with a guard off: the image that it runs, the guard, how many slots have run, and what it is
-- after them.
use Rattle.std.specs.Prelude.{ℕ}
use Rattle.guards.specs.declared.Guard.{Guard}
use Rattle.image_record.specs.Record.{Raw}
use Rattle.image_check.specs.Image.{Image, image_from}
use Rattle.world_view.specs.Machine.{World, whole_off}

pub record Ablation : Type 0 where
  pub record_of : Raw
  pub off : Guard
  pub slots : ℕ

abbrev pub image_off : Ablation → Image
image_off m = image_from m.record_of

abbrev pub world_off : Ablation → World
world_off m = whole_off m.off (image_off m) m.slots
