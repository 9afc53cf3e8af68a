use Rattle.image_writing.specs.Data.{integers, domain_members}
use Rattle.image_writing.proofs.values.domain_table.Goals as goal

pub returns-in-Some : goal.returns-in-Some
unfolding domain_members
returns-in-Some c =
    rw c.in-Some.is
    (record {
      made = c.put.ensures.put _ (integers c.in-Some.calls.items) c.plain_domain-table.ensures.made
          (rw c.as_slice.ensures.value at c.array_of.ensures.value);
    })

pub returns-in-None : goal.returns-in-None
unfolding domain_members
returns-in-None c = rw c.in-None.is (record { made = c.plain_domain-table.ensures.made })
