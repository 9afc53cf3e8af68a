use Rattle.std.proofs.Common.{ap, ◌∙◌}
use Rattle.toml.specs.View.{members_view}
use Rattle.image_writing.proofs.Inserts.{inserted_view}
use Rattle.image_writing.proofs.tables.inserted.Goals as goal

pub returns-in-Ok : goal.returns-in-Ok
returns-in-Ok c = record {
  put =
      ap members_view c.in-Ok.ensures.entries
      ∙ inserted_view c.args.key c.args.value c.args.table.entries;
}
