use Rattle.std.proofs.Common.{refl, rules}
use Rattle.cache_tests.proofs.second_level.there_are_up_to_64_colours.Goals as goal

pub new-requires-clause-geometry : goal.new-requires-clause-geometry
new-requires-clause-geometry g c = record { taken = search rules; power = (11, refl); small = search rules }
