-- How contracts see a run of an image's harts: the image, how the next hart was chosen, the slots, and the state.
use Rattle.std.specs.Prelude.{◌≡◌, ℕ, List}
use Rattle.image_record.specs.Record.{Raw}
use Rattle.image_check.specs.Image.{Image, image_from}
use Rattle.image_check.specs.Laws.{Runnable}
use Rattle.world_view.specs.Machine.{World}
use Rattle.world_view.specs.Harts.{Harts}
use Rattle.world_view.specs.HartLaws.{AreHartsOf}
use Rattle.hart_orders.specs.declared.choice.Choice.{Choice}
use Rattle.hart_set.specs.declared.set.State.{State}
use Rattle.hart_set.specs.Models as set
use Rattle.hart_set.specs.Models.{StandsAfter}
use Rattle.hart_orders.specs.Order.{ran}
use Rattle.hart_machine.specs.Laws.{SameReport}

pub record Run : Type 0 where
  pub record_of : Raw
  pub choice : Choice
  pub slots : ℕ

abbrev pub image_of : Run → Image
image_of r = image_from r.record_of

abbrev pub world_of : Run → World
world_of r = ran (image_of r) r.choice r.slots

-- ---- what the code's harts stand for

-- harts that some order of events leads to
pub record StandsAt (s : Raw × State) (to : Harts) : Type 0 where
  pub order : List ℕ
  pub of_harts : AreHartsOf (set.image_of s) order
  pub leads : set.harts_after s order ≡ to
  pub stands : StandsAfter s order

-- harts after an order of events that reports what the order of this choice does, with n slots of each
pub record HasRun (s : Raw × State) (c : Choice) (n : ℕ) : Type 0 where
  pub accepted : Runnable (set.image_of s)
  pub order : List ℕ
  pub same : SameReport (set.image_of s) (ran (set.image_of s) c n) (set.harts_after s order).world
  pub stands : StandsAfter s order
