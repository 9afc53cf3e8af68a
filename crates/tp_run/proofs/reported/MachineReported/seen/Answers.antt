use Rattle.world_view.specs.View.{view_whole}
use Rattle.tp_run.proofs.reported.MachineReported.seen.Goals as goal

pub returns : goal.returns
unfolding view_whole
returns c = record { view = c.view.ensures.view }
