-- The loop: what is left of it decides as the whole does.
use Rattle.std.proofs.Common.{◌≡◌, drop, map}
use Rattle.toml.specs.View.{items_view}
use Rattle.image_text.specs.Rows.{all_items}
use Rattle.image_text.specs.Unknown as spec
use Rattle.image_text.specs.Models.{row_model}
use Rattle.image_text.proofs.unknown.known_items.Given as goal

abbrev pub invariant-loop-value : goal.invariant-loop-value
invariant-loop-value l =
    all_items (spec.known_item l.version l.place (map row_model l.rows))
    (items_view (drop l.value-index l.values))
    ≡ all_items (spec.known_item l.version l.place (map row_model l.rows)) (items_view l.values)
