-- Its sizes are a hierarchy's.
use Rattle.std.proofs.Common.{arith, refl, sym, subst, inl, lit≤}
use Rattle.l2_colour.specs.Colours.{IsColoured}
use Rattle.step_tests.proofs.Sizes.{is_lru_cache}
use Rattle.step_tests.proofs.steps.parts_of.Goals as goal

pub new_parts-requires : goal.new_parts-requires
new_parts-requires c = record {
  geometry = record {
    least = omega arith;
    coloured =
        subst (IsColoured 64) (sym c.cache-3.ensures.sets)
        (record { whole_lines = refl; whole_colours = refl; some = omega arith; few = omega arith });
    predictor = record { counters = (4, refl); history = lit≤ tt; targets = inl refl };
    l1i = is_lru_cache c.cache.result 16 2 4 c.cache.ensures.sets c.cache.ensures.ways (omega arith, omega arith) refl (omega arith);
    l1d = is_lru_cache c.cache-2.result 16 2 4 c.cache-2.ensures.sets c.cache-2.ensures.ways (omega arith, omega arith) refl (omega arith);
    l2 = is_lru_cache c.cache-3.result 256 4 8 c.cache-3.ensures.sets c.cache-3.ensures.ways (omega arith, omega arith) refl (omega arith);
    tlb = is_lru_cache c.cache-4.result 4 2 2 c.cache-4.ensures.sets c.cache-4.ensures.ways (omega arith, omega arith) refl (omega arith);
    dirty = rw (c.cache-2.ensures.sets, c.cache-2.ensures.ways) (omega arith);
  };
}
