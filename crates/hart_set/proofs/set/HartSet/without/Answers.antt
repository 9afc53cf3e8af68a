use Rattle.std.proofs.Common.{inr}
use Rattle.hart_set.proofs.set.HartSet.without.Goals as goal

pub load_by-requires : goal.load_by-requires
load_by-requires c = record { served = inr c.requires.one }
