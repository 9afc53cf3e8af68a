use Rattle.std.proofs.Common.{arith}
use Rattle.frame_colours.specs.Colours.{share_of, whole_of}
use Rattle.frame_colours.proofs.Pools.{length_more, counted_whole}
use Rattle.frame_colours.proofs.share.count_each.Goals.{then-is_coloured, else-is_coloured}
use Rattle.frame_colours.proofs.share.count_each.Goals as goal

pub loop-frame-preserved : goal.loop-frame-preserved
loop-frame-preserved c = elim c.if-is_coloured.branch [
  | then-is_coloured w ↦ grind (arith, length_more (share_of (whole_of c.args.frames c.args.colours) c.args.own.now) c.loop-frame.frame)
  | else-is_coloured w ↦ grind (arith, length_more (share_of (whole_of c.args.frames c.args.colours) c.args.own.now) c.loop-frame.frame)
]

pub returns : goal.returns
returns c = record {
  value =
      counted_whole (share_of (whole_of c.args.frames c.args.colours) c.args.own.now) c.loop-frame.count
      c.loop-frame.frame (grind arith) c.loop-frame.invariant.0;
}
