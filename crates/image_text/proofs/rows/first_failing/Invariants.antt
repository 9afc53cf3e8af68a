-- The loop: what is left of it decides as the whole does.
use Rattle.std.proofs.Common.{◌≡◌, drop}
use Rattle.toml.specs.View.{items_view}
use Rattle.image_text.specs.Rows as spec
use Rattle.image_text.specs.Models.{row_model}
use Rattle.image_text.proofs.rows.first_failing.Given as goal

abbrev pub invariant-loop-number : goal.invariant-loop-number
invariant-loop-number l =
    spec.first_failing (spec.passes l.row.place (row_model l.row)) l.number
    (items_view (drop l.number l.values))
    ≡ spec.first_failing (spec.passes l.row.place (row_model l.row)) 0 (items_view l.values)
