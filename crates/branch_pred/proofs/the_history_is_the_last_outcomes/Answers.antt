use Rattle.branch_pred.proofs.History.{last_outcomes}
use Rattle.branch_pred.proofs.the_history_is_the_last_outcomes.Goals as goal

pub returns : goal.returns
returns c = record { last = last_outcomes }
