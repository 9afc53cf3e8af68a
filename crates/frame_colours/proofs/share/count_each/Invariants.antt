use Rattle.std.proofs.Common.{◌-◌, ◌≡◌, ◌≤◌, length}
use Rattle.std.specs.Prelude.{filter}
use Rattle.std.specs.List.{range_with_len}
use Rattle.frame_colours.specs.Colours.{has_colour, share_of, whole_of}
use Rattle.frame_colours.proofs.share.count_each.Given as goal

abbrev pub invariant-loop-frame : goal.invariant-loop-frame
invariant-loop-frame l =
    (l.count ≡ length (filter (has_colour (share_of (whole_of l.frames l.colours) l.own)) (range_with_len 0 l.frame)))
    × (l.frame ≤ l.frames)
    × (l.count ≤ l.frame)

abbrev pub decreases-loop-frame : goal.decreases-loop-frame
decreases-loop-frame l = l.frames - l.frame
