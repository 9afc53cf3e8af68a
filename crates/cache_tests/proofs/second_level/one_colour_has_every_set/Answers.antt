use Rattle.std.proofs.Common.{refl, rules}
use Rattle.cache_tests.proofs.second_level.one_colour_has_every_set.Goals as goal

pub new-requires-clause-geometry : goal.new-requires-clause-geometry
new-requires-clause-geometry g c = record { taken = search rules; power = (8, refl); small = search rules }
