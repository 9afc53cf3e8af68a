use Rattle.pad_bound.proofs.Parts.{no_smaller}
use Rattle.pad_bound.proofs.laws.grows_with_machines.Goals as goal

pub returns : goal.returns
returns c = record { bound = no_smaller }
