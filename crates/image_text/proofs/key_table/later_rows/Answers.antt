-- The rows of the key table after row 25.
use Rattle.std.proofs.Common.{ap, ◌∙◌}
use Rattle.toml.specs.View.{table_view}
use Rattle.image_text.specs.Rows.{first_broken}
use Rattle.image_text.proofs.KeyRows.{at_least_25, last_part}
use Rattle.image_text.proofs.key_table.later_rows.Goals as goal

pub slice_bounds-first_broken-count : goal.slice_bounds-first_broken-count
slice_bounds-first_broken-count c = at_least_25 _ c.key_rows.ensures.rows

pub slice_bounds-first_broken-start : goal.slice_bounds-first_broken-start
slice_bounds-first_broken-start c = at_least_25 _ c.key_rows.ensures.rows

pub returns-clause-value : goal.returns-clause-value
returns-clause-value c =
    c.first_broken.ensures.value
    ∙ ap (λ rows. first_broken c.args.version rows (table_view c.args.table.now))
    (last_part 25 _ c.key_rows.ensures.rows)
