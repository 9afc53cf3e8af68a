-- A domain, field for field.
use Rattle.std.proofs.Common.{ap, ◌∙◌}
use Rattle.image_text.specs.Record.{map_items, segment_in, moment_in, text_of}
use Rattle.toml.specs.View.{table_view}
use Rattle.image_text.proofs.Parts.{domain_of}
use Rattle.image_text.proofs.reading.domain_of.Goals as goal
use Rattle.toml.specs.Data.{Data}
use Rattle.std.specs.Prelude.{Some}

pub returns : goal.returns
returns c =
    let segments = c.in_ok-segments.ensures.read ∙ ap (map_items segment_in) c.items_at.ensures.value in
    let caps = c.in_ok-caps.ensures.read ∙ ap (map_items (λ (d : Data). text_of (Some d))) c.items_at-2.ensures.value in
    let moments = c.in_ok-moments.ensures.read ∙ ap (map_items moment_in) c.items_at-3.ensures.value in
    record {
      read =
          domain_of (table_view c.args.table.now) _ _ _ _ _ _ _ _ c.in_ok-name.ensures.read
          c.in_ok-colours.ensures.read c.natural_at.ensures.value segments caps c.in_ok-lines.ensures.read
          moments c.in_ok-calls.ensures.read;
    }
