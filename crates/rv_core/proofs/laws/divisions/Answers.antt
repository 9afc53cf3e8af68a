-- The laws of divisions.
use Rattle.rv_core.proofs.DivisionLaws.{signed-division, unsigned-whole, unsigned-small}
use Rattle.rv_core.proofs.laws.divisions.Goals as goal

pub returns-clause-division : goal.returns-clause-division
returns-clause-division c = signed-division

pub returns-clause-whole : goal.returns-clause-whole
returns-clause-whole c = unsigned-whole

pub returns-clause-small : goal.returns-clause-small
returns-clause-small c = unsigned-small
