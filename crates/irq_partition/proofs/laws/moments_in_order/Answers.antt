use Rattle.irq_partition.proofs.Order.{next-after, later, delivered-sound, opening-sound}
use Rattle.irq_partition.proofs.laws.moments_in_order.Goals as goal

pub returns-clause-each : goal.returns-clause-each
returns-clause-each c = next-after

pub returns-clause-later : goal.returns-clause-later
returns-clause-later c = later

pub returns-clause-sound : goal.returns-clause-sound
returns-clause-sound c = delivered-sound

pub returns-clause-opening : goal.returns-clause-opening
returns-clause-opening c = opening-sound
