-- The law of numbers.
use Rattle.image_text.proofs.Numbers.{numbers_law}
use Rattle.image_text.proofs.laws.numbers.Goals as goal

pub returns : goal.returns
returns c = record { numbers = numbers_law }
