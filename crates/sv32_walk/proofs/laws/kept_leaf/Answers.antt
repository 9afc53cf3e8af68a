-- The law of a leaf that was kept.
use Rattle.sv32_walk.proofs.KeptLeafLemmas.{walk_again, leaf_within}
use Rattle.sv32_walk.proofs.laws.kept_leaf.Goals as goal

pub returns-clause-again : goal.returns-clause-again
returns-clause-again c = walk_again

pub returns-clause-within : goal.returns-clause-within
returns-clause-within c = leaf_within
