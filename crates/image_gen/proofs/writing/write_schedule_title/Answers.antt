use Rattle.std.proofs.Common.{◌++◌, string_bytes}
use Rattle.image_gen.specs.Text.{schedule_title}
use Rattle.image_gen.proofs.Pieces.{when_written}
use Rattle.image_gen.proofs.writing.write_schedule_title.Goals as goal

pub returns : goal.returns
unfolding schedule_title
returns c = record { added = when_written c.push_str.result _ (string_bytes c.args.text.now ++ schedule_title) _ c.push_str.ensures.bytes }
