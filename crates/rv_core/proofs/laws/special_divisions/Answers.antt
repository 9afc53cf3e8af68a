-- The laws of the cases that are no divisions.
use Rattle.rv_core.proofs.DivisionLaws.{overflow-quotient, overflow-remainder}
use Rattle.rv_core.proofs.laws.special_divisions.Goals as goal

pub returns-clause-overflow : goal.returns-clause-overflow
returns-clause-overflow c = overflow-quotient

pub returns-clause-overflow_remainder : goal.returns-clause-overflow_remainder
returns-clause-overflow_remainder c = overflow-remainder
