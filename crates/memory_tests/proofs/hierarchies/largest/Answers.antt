-- Its sizes are a hierarchy's.
use Rattle.std.proofs.Common.{arith, refl, sym, subst, inr, lit≤}
use Rattle.repl_policy.specs.declared.AnyPolicy.TheVariants.{Lru}
use Rattle.l2_colour.specs.Colours.{IsColoured}
use Rattle.memory_tests.proofs.Sizes.{is_cache}
use Rattle.memory_tests.proofs.hierarchies.largest.Goals as goal

pub new-requires : goal.new-requires
new-requires c = record {
  geometry = record {
    least = omega arith;
    coloured =
        subst (IsColoured 16) (sym c.cache-3.ensures.sets)
        (record { whole_lines = refl; whole_colours = refl; some = omega arith; few = omega arith });
    predictor = record { counters = (12, refl); history = lit≤ tt; targets = inr (8, refl) };
    l1i =
        is_cache c.cache.result Lru 1024 16 10 c.cache.ensures.policy c.cache.ensures.sets
        c.cache.ensures.ways (omega arith, omega arith) refl (omega arith);
    l1d =
        is_cache c.cache-2.result Lru 1024 16 10 c.cache-2.ensures.policy c.cache-2.ensures.sets
        c.cache-2.ensures.ways (omega arith, omega arith) refl (omega arith);
    l2 =
        is_cache c.cache-3.result Lru 16384 16 14 c.cache-3.ensures.policy c.cache-3.ensures.sets
        c.cache-3.ensures.ways (omega arith, omega arith) refl (omega arith);
    tlb =
        is_cache c.cache-4.result Lru 256 16 8 c.cache-4.ensures.policy c.cache-4.ensures.sets
        c.cache-4.ensures.ways (omega arith, omega arith) refl (omega arith);
    dirty = rw (c.cache-2.ensures.sets, c.cache-2.ensures.ways) (omega arith);
  };
}
