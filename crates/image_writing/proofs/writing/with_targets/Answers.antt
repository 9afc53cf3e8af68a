use Rattle.toml.specs.Data.{integer}
use Rattle.image_writing.specs.Data.{with_targets}
use Rattle.image_writing.proofs.writing.with_targets.Goals as goal

pub returns-in-Some : goal.returns-in-Some
unfolding with_targets
returns-in-Some c =
    rw c.in-Some.is
    (record { made = c.put.ensures.put _ (integer c.in-Some.targets) c.plain_table-table.ensures.made c.value.ensures.value })

pub returns-in-None : goal.returns-in-None
unfolding with_targets
returns-in-None c = rw c.in-None.is (record { made = c.plain_table-table.ensures.made })
