-- The values that are left decide as all of them do.
use Rattle.std.proofs.Common.{◌≡◌, drop}
use Rattle.toml.specs.View.{items_view}
use Rattle.image_text.specs.Unknown as spec
use Rattle.image_text.proofs.unknown.+no_key.Given as goal

abbrev pub invariant-all_hold_no_key-loop-value : goal.invariant-all_hold_no_key-loop-value
invariant-all_hold_no_key-loop-value l =
    spec.no_key_in (items_view (drop l.value-index l.value-items)) ≡ spec.no_key_in (items_view l.value-items)
