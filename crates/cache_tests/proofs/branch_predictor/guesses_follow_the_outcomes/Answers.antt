use Rattle.std.proofs.Common.{refl}
use Rattle.cache_tests.proofs.branch_predictor.guesses_follow_the_outcomes.Goals as goal

pub made-requires-clause-counters : goal.made-requires-clause-counters
made-requires-clause-counters g c = (4, refl)
