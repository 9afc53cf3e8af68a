use Rattle.std.proofs.Common.{refl}
use Rattle.cache_tests.proofs.branch_predictor.a_history_sees_what_alternates.Goals as goal

pub made-requires-clause-counters : goal.made-requires-clause-counters
made-requires-clause-counters g c = (4, refl)

pub made-requires-2-clause-counters : goal.made-requires-2-clause-counters
made-requires-2-clause-counters g c = (4, refl)

pub made-requires-3-clause-counters : goal.made-requires-3-clause-counters
made-requires-3-clause-counters g c = (4, refl)

pub made-requires-4-clause-counters : goal.made-requires-4-clause-counters
made-requires-4-clause-counters g c = (4, refl)
