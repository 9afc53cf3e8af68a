use Rattle.std.proofs.Common.{◌≡◌, cond, map, refl, sym, arith}
use Rattle.image_check.specs.Models.{segment_model}
use Rattle.image_check.specs.Pages.{regions_below}
use Rattle.domain_open.proofs.Pages.{region_counted}
use Rattle.domain_open.proofs.segments.regions_below.Goals as goal

pub loop-r-init : goal.loop-r-init
unfolding regions_below
loop-r-init c = record { below = refl; few = omega arith }

pub loop-r-preserved : goal.loop-r-preserved
loop-r-preserved c =
    let one : c.from-regions.result ≡ cond c.has_region.result 1 0 = grind (arith, c.from-regions.ensures) in
    let next =
    region_counted (map segment_model c.args.segments.now) c.loop-r.r c.loop-r.regions
    c.from-regions.result c.has_region.result (sym c.has_region.ensures.value)
    c.loop-r.invariant.below c.loop-r.invariant.few one in
    record { below = next.0; few = next.1 }
