-- The states of the code that events of harts lead to.
use Rattle.std.specs.Prelude.{ℕ, List}
use Rattle.image_check.specs.Image.{Image}
use Rattle.image_check.specs.Laws.{Runnable}
use Rattle.world_view.specs.Harts.{harts_by}
use Rattle.world_view.specs.HartLaws.{AreHartsOf}
use Rattle.hart_orders.specs.Off.{IsServed}
use Rattle.hart_set.specs.declared.set.State.{State}
use Rattle.hart_set.specs.Standing.{StandsFor, IsInBounds}

-- it stands for the harts of an accepted image after some order of events: with all guards on, or with one off where there is
-- one hart
pub record IsReached (i : Image) (t : State) : Type 0 where
  pub accepted : Runnable i
  pub served : IsServed t.off i
  pub order : List ℕ
  pub of_harts : AreHartsOf i order
  pub stands : StandsFor i (harts_by t.off i order) t
  pub in_bounds : IsInBounds i t
