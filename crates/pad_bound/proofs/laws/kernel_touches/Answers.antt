use Rattle.pad_bound.proofs.Parts.{operation_covers, operation_reached, leave_costs, enter_costs}
use Rattle.pad_bound.proofs.laws.kernel_touches.Goals as goal

pub returns-clause-operation : goal.returns-clause-operation
returns-clause-operation c = operation_covers

pub returns-clause-reached : goal.returns-clause-reached
returns-clause-reached c = operation_reached

pub returns-clause-leave : goal.returns-clause-leave
returns-clause-leave c = leave_costs

pub returns-clause-enter : goal.returns-clause-enter
returns-clause-enter c = enter_costs
