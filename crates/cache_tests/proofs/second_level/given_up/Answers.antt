use Rattle.std.proofs.Common.{refl, rules}
use Rattle.cache_tests.proofs.second_level.given_up.Goals as goal

pub new-requires-clause-geometry : goal.new-requires-clause-geometry
new-requires-clause-geometry c = record { taken = search rules; power = (6, refl); small = search rules }
