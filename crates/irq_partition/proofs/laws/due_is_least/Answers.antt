use Rattle.irq_partition.proofs.Order.{due-Some}
use Rattle.irq_partition.proofs.laws.due_is_least.Goals as goal

pub returns-clause-there : goal.returns-clause-there
returns-clause-there c = due-Some
