use Rattle.pad_bound.proofs.Parts.{flush_covers}
use Rattle.pad_bound.proofs.laws.flushes.Goals as goal

pub returns : goal.returns
returns c = record { flush = flush_covers }
