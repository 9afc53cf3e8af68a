use Rattle.std.proofs.Common.{◌-◌, ◌≡◌, ◌≤◌, length, reverse}
use Rattle.std.specs.Prelude.{filter}
use Rattle.std.specs.List.{range_with_len}
use Rattle.frame_colours.specs.Colours.{colour_of, has_colour, pool}
use Rattle.frame_colours.proofs.share.Part.descending.Given as goal

abbrev pub invariant-loop-frame : goal.invariant-loop-frame
invariant-loop-frame l =
    (reverse l.frames.items ≡ filter (has_colour l.self) (range_with_len l.frame (l.self.frames - l.frame)))
    × (l.frame ≤ l.self.frames)
    × (length (pool l.self) ≡ l.frames.cap)
    × (l.colour ≡ colour_of l.self.colours l.frame)

abbrev pub decreases-loop-frame : goal.decreases-loop-frame
decreases-loop-frame l = l.frame
