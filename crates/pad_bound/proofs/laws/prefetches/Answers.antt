use Rattle.pad_bound.proofs.Parts.{prefetch_costs}
use Rattle.pad_bound.proofs.laws.prefetches.Goals as goal

pub returns : goal.returns
returns c = record { prefetch = prefetch_costs }
