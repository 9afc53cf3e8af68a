use Rattle.std.proofs.Common.{refl, inr}
use Rattle.cache_tests.proofs.branch_predictor.jumps_are_known_by_pc_and_target.Goals as goal

pub made-requires-clause-targets : goal.made-requires-clause-targets
made-requires-clause-targets g c = inr (2, refl)
