-- The loop: what is left of it decides as the whole does.
use Rattle.std.proofs.Common.{◌≡◌, drop, map}
use Rattle.toml.specs.View.{table_view}
use Rattle.image_text.specs.Unknown as spec
use Rattle.image_text.specs.Models.{row_model}
use Rattle.image_text.proofs.unknown.no_more_in.Given as goal

abbrev pub invariant-loop-row : goal.invariant-loop-row
invariant-loop-row l =
    spec.no_more_in l.version l.place (map row_model (drop l.row-index l.rows)) (table_view l.table)
    ≡ spec.no_more_in l.version l.place (map row_model l.rows) (table_view l.table)
