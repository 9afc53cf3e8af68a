use Rattle.repl_policy.proofs.tree.+point_away.Given as goal

abbrev pub decreases-point_away : goal.decreases-point_away
decreases-point_away l = l.size
