-- What is read, and what is left, are all.
use Rattle.std.proofs.Common.{◌≡◌, ◌++◌, drop, map}
use Rattle.toml.specs.View.{items_view}
use Rattle.image_text.specs.Record.{map_items}
use Rattle.image_text.proofs.items.read_items.Given as goal

abbrev pub invariant-loop-value : goal.invariant-loop-value
invariant-loop-value g l =
    map g.T.Item.model l.found.items ++ map_items g.T.Item.part_in (items_view (drop l.value-index l.values))
    ≡ map_items g.T.Item.part_in (items_view l.values)
