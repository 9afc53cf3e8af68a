use Rattle.std.proofs.Common.{rules}
use Rattle.l2_colour.proofs.LineSizes.{size_is}
use Rattle.l2_colour.proofs.cache.L2.new.Goals as goal

pub invariant_of-result : goal.invariant_of-result
invariant_of-result g c =
    let size = size_is c.args.line_size c.args.sets c.requires.coloured c.ranges.line_size.fits in
    search (rules, size)
