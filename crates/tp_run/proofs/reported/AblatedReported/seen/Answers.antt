use Rattle.world_view.specs.View.{view_off}
use Rattle.tp_run.proofs.reported.AblatedReported.seen.Goals as goal

pub returns : goal.returns
unfolding view_off
returns c = record { view = c.view.ensures.view }
