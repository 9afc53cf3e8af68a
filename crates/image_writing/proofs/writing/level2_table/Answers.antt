use Rattle.toml.specs.Data.{boolean}
use Rattle.image_writing.specs.Data.{cache_members, level2_members}
use Rattle.image_writing.proofs.writing.level2_table.Goals as goal

pub returns : goal.returns
unfolding cache_members level2_members
returns c = record { made = c.put.ensures.put _ (boolean c.args.raw.now.back) c.cache_table.ensures.made c.value.ensures.value }
