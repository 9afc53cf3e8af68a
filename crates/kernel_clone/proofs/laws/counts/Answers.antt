use Rattle.kernel_clone.proofs.Items.{length-touches}
use Rattle.kernel_clone.proofs.Totals.{plain_count, switch_count}
use Rattle.kernel_clone.proofs.laws.counts.Goals as goal

pub returns-clause-sum : goal.returns-clause-sum
returns-clause-sum c = length-touches

pub returns-clause-plain : goal.returns-clause-plain
returns-clause-plain c = plain_count

pub returns-clause-switch : goal.returns-clause-switch
returns-clause-switch c = switch_count
