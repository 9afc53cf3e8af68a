use Rattle.thread_set.proofs.Parts.{eight-model}
use Rattle.thread_set.proofs.laws.are_eight.Goals as goal

pub returns : goal.returns
returns c = record { eight = eight-model c.args.threads.now }
