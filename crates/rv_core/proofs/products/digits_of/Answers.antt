-- The digits of a word.
use Rattle.rv_core.proofs.Digits.{digits_of-leading}
use Rattle.rv_core.proofs.products.digits_of.Goals as goal

pub returns-clause-value : goal.returns-clause-value
returns-clause-value c = digits_of-leading c.args.word c.ranges.word.fits
