use Rattle.image_gen.proofs.OneHart.{one_hart}
use Rattle.image_gen.proofs.laws.one_hart.Goals as goal

pub returns : goal.returns
returns c = record { one = one_hart }
