-- Its sizes are a hierarchy's.
use Rattle.std.proofs.Common.{arith, refl, sym, subst, inl, lit≤}
use Rattle.l2_colour.specs.Colours.{IsColoured}
use Rattle.memory_tests.proofs.Sizes.{takes_two, takes_four, is_cache}
use Rattle.memory_tests.proofs.hierarchies.small_geometry.Goals as goal

pub returns-clause-sound : goal.returns-clause-sound
returns-clause-sound c = record {
  least = omega arith;
  coloured =
      subst (IsColoured 64) (sym c.cache-3.ensures.sets)
      (record { whole_lines = refl; whole_colours = refl; some = omega arith; few = omega arith });
  predictor = record { counters = (4, refl); history = lit≤ tt; targets = inl refl };
  l1i =
      is_cache c.cache.result c.args.policy 16 2 4 c.cache.ensures.policy c.cache.ensures.sets
      c.cache.ensures.ways (takes_two c.args.policy) refl (omega arith);
  l1d =
      is_cache c.cache-2.result c.args.policy 16 2 4 c.cache-2.ensures.policy c.cache-2.ensures.sets
      c.cache-2.ensures.ways (takes_two c.args.policy) refl (omega arith);
  l2 =
      is_cache c.cache-3.result c.args.policy 256 4 8 c.cache-3.ensures.policy c.cache-3.ensures.sets
      c.cache-3.ensures.ways (takes_four c.args.policy) refl (omega arith);
  tlb =
      is_cache c.cache-4.result c.args.policy 4 2 2 c.cache-4.ensures.policy c.cache-4.ensures.sets
      c.cache-4.ensures.ways (takes_two c.args.policy) refl (omega arith);
  dirty = rw (c.cache-2.ensures.sets, c.cache-2.ensures.ways) (omega arith);
}
