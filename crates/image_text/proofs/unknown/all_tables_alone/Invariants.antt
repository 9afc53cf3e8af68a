-- The values that are left decide as all of them do.
use Rattle.std.proofs.Common.{◌≡◌, ◌||◌, drop, is_some}
use Rattle.toml.specs.Data.{as_table}
use Rattle.toml.specs.View.{items_view}
use Rattle.image_text.specs.Rows.{all_items}
use Rattle.image_text.specs.Unknown as spec
use Rattle.image_text.proofs.unknown.all_tables_alone.Given as goal

abbrev pub invariant-loop-value : goal.invariant-loop-value
invariant-loop-value l =
    all_items (λ d. is_some (as_table d) || spec.no_key d) (items_view (drop l.value-index l.values))
    ≡ all_items (λ d. is_some (as_table d) || spec.no_key d) (items_view l.values)
