use Rattle.pad_bound.proofs.Parts.{bound_covers, bound_reached}
use Rattle.pad_bound.proofs.laws.late_steps.Goals as goal

pub returns-clause-within : goal.returns-clause-within
returns-clause-within c = bound_covers

pub returns-clause-reached : goal.returns-clause-reached
returns-clause-reached c = bound_reached
