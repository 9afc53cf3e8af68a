use Rattle.std.proofs.Common.{refl}
use Rattle.cache_tests.proofs.branch_predictor.a_history_chooses_by_exclusive_or.Goals as goal

pub made-requires-clause-counters : goal.made-requires-clause-counters
made-requires-clause-counters g c = (2, refl)
