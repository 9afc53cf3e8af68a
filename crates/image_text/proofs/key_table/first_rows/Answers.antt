-- The first 25 rows of the key table.
use Rattle.std.proofs.Common.{sym, ap, ◌∙◌}
use Rattle.std.proofs.lemmas.List.{length-take-le}
use Rattle.toml.specs.View.{table_view}
use Rattle.image_text.specs.Rows.{first_broken}
use Rattle.image_text.proofs.KeyRows.{at_least_25, first_part}
use Rattle.image_text.proofs.key_table.first_rows.Goals as goal

pub slice_bounds-first_broken-end : goal.slice_bounds-first_broken-end
slice_bounds-first_broken-end c = sym (length-take-le 25 _ (at_least_25 _ c.key_rows.ensures.rows))

pub returns-clause-value : goal.returns-clause-value
returns-clause-value c =
    c.first_broken.ensures.value
    ∙ ap (λ rows. first_broken c.args.version rows (table_view c.args.table.now))
    (first_part 25 _ c.key_rows.ensures.rows)
