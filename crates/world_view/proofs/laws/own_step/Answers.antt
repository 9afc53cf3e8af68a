use Rattle.world_view.proofs.steps.StepLaws.{step_near}
use Rattle.world_view.proofs.laws.own_step.Goals as goal

pub returns : goal.returns
returns c = record { step = step_near }
