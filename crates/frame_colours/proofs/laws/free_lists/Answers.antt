use Rattle.frame_colours.proofs.Pools.{all_free_is_free_list, pool_has}
use Rattle.frame_colours.proofs.Placed.{without_least_is_free_list, with_frame_is_free_list, given_again, free_list_determined}
use Rattle.frame_colours.proofs.laws.free_lists.Goals as goal

pub returns-clause-fresh : goal.returns-clause-fresh
returns-clause-fresh c = all_free_is_free_list

pub returns-clause-all : goal.returns-clause-all
returns-clause-all c = pool_has

pub returns-clause-taken : goal.returns-clause-taken
returns-clause-taken c = without_least_is_free_list

pub returns-clause-given : goal.returns-clause-given
returns-clause-given c = with_frame_is_free_list

pub returns-clause-again : goal.returns-clause-again
returns-clause-again c = given_again

pub returns-clause-determined : goal.returns-clause-determined
returns-clause-determined c = free_list_determined
