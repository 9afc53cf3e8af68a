use Rattle.thread_set.proofs.Changes.{put-at, put-others, put-turn, ended-at, ended-turn}
use Rattle.thread_set.proofs.laws.each_is_apart.Goals as goal

pub returns-clause-put : goal.returns-clause-put
returns-clause-put c = put-at

pub returns-clause-put_others : goal.returns-clause-put_others
returns-clause-put_others c = put-others

pub returns-clause-put_turn : goal.returns-clause-put_turn
returns-clause-put_turn c = put-turn

pub returns-clause-ended : goal.returns-clause-ended
returns-clause-ended c = ended-at

pub returns-clause-ended_turn : goal.returns-clause-ended_turn
returns-clause-ended_turn c = ended-turn
