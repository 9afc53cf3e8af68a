use Rattle.std.proofs.Common.{arith, ap, ◌∙◌, ◌≡◌, map}
use Rattle.image_record.specs.Parts.{segment_model}
use Rattle.domain_check.specs.Segments.{segment_of}
use Rattle.domain_check.specs.Pages.{regions_below}
use Rattle.domain_check.proofs.regions.regions_in.Goals as goal

pub returns-clause-value : goal.returns-clause-value
returns-clause-value c =
    let all : c.loop-region.region ≡ 1025 = omega (arith, c.loop-region.invariant.2, c.loop-region-test.false) in
    c.loop-region.invariant.0 ∙ ap (regions_below (map segment_of (map segment_model c.args.segments.now))) all
