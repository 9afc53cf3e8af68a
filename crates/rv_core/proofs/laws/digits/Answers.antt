-- The laws of digits.
use Rattle.rv_core.proofs.Digits.{digits_of-is, digits_of-least, least_power-few}
use Rattle.rv_core.proofs.laws.digits.Goals as goal

pub returns-clause-above : goal.returns-clause-above
returns-clause-above c = λ n fits. (digits_of-is n fits).above

pub returns-clause-least : goal.returns-clause-least
returns-clause-least c = digits_of-least

pub returns-clause-few : goal.returns-clause-few
returns-clause-few c = λ n. least_power-few 32 0 n
