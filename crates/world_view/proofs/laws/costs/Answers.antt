use Rattle.world_view.specs.Harts.{harts}
use Rattle.world_view.proofs.time.TimeLaws.{step_costs, plain_costs}
use Rattle.world_view.proofs.harts.Isolation.{running}
use Rattle.world_view.proofs.harts.Always.{slot_costs}
use Rattle.world_view.proofs.laws.costs.Goals as goal

pub returns-clause-step : goal.returns-clause-step
returns-clause-step c = step_costs

pub returns-clause-plain : goal.returns-clause-plain
returns-clause-plain c = plain_costs

pub returns-clause-in_slots : goal.returns-clause-in_slots
returns-clause-in_slots c i h order r below is within = slot_costs i r h is (harts i order) (running i r order below) within
