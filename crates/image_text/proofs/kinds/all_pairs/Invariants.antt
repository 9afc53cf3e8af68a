-- The loop: what is left of it decides as the whole does.
use Rattle.std.proofs.Common.{◌≡◌, drop}
use Rattle.toml.specs.View.{items_view}
use Rattle.image_text.specs.Rows as spec
use Rattle.image_text.proofs.kinds.all_pairs.Given as goal

abbrev pub invariant-loop-value : goal.invariant-loop-value
invariant-loop-value l =
    spec.all_items spec.is_pair_value (items_view (drop l.value-index l.values))
    ≡ spec.all_items spec.is_pair_value (items_view l.values)
