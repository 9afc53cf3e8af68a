use Rattle.std.proofs.Common.{◌≡◌, ◌≤◌, map, length, ◌++◌}
use Rattle.frame_colours.specs.Colours.{share_of, colours_in}
use Rattle.frame_colours.proofs.colours.AllColours.split.Given as goal

abbrev pub invariant-loop-part : goal.invariant-loop-part
invariant-loop-part l =
    (goal.iterator-loop-part).can_next l.part-iterator ×
    (goal.iterator-loop-part).is_finite l.part-iterator ×
    (l.shares.items ≡ l.yielded) ×
    (l.yielded ++ l.part-iterator.rest.items ≡ map (share_of l.fn.self) (colours_in l.fn.lists)) ×
    (length (l.yielded ++ l.part-iterator.rest.items) ≤ l.shares.cap)
