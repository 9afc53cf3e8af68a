use Rattle.kernel_clone.proofs.PlaceLaws.{placed, stored, no_load}
use Rattle.kernel_clone.proofs.laws.places.Goals as goal

pub returns-clause-each : goal.returns-clause-each
returns-clause-each c = placed

pub returns-clause-stores : goal.returns-clause-stores
returns-clause-stores c = stored

pub returns-clause-switch : goal.returns-clause-switch
returns-clause-switch c = no_load
