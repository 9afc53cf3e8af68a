use Rattle.std.proofs.Common.{inl, refl}
use Rattle.hart_set.proofs.set.HartSet.load.Goals as goal

pub load_by-requires : goal.load_by-requires
load_by-requires c = record { served = inl refl }
