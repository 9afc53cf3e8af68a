use Rattle.frame_colours.proofs.Pools.{frame_at_own, frame_at_increasing, own_is_frame_at}
use Rattle.frame_colours.proofs.laws.pools.Goals as goal

pub returns-clause-own : goal.returns-clause-own
returns-clause-own c = frame_at_own

pub returns-clause-increasing : goal.returns-clause-increasing
returns-clause-increasing c = frame_at_increasing

pub returns-clause-each : goal.returns-clause-each
returns-clause-each c = own_is_frame_at
