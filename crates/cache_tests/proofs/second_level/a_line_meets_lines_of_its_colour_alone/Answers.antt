use Rattle.std.proofs.Common.{refl, rules}
use Rattle.cache_tests.proofs.second_level.a_line_meets_lines_of_its_colour_alone.Goals as goal

pub new-requires-clause-geometry : goal.new-requires-clause-geometry
new-requires-clause-geometry g c = record { taken = search rules; power = (7, refl); small = search rules }
