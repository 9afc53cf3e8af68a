use Rattle.std.proofs.Common.{◌≡◌, ◌≤◌, map, length, take}
use Rattle.frame_colours.specs.Colours.{share_of, colours_in}
use Rattle.frame_colours.proofs.colours.parts_of.Given as goal

abbrev pub invariant-loop-list : goal.invariant-loop-list
invariant-loop-list l =
    (l.parts.items ≡ map (share_of (record { frames = l.frames; colours = l.colours })) (colours_in (take l.list-index l.lists)))
    × (length l.parts.items ≡ l.list-index)
    × (l.list-index ≤ l.list-index-end)
    × (l.list-index-end ≡ length l.lists)
    × (length l.lists ≤ l.parts.cap)
