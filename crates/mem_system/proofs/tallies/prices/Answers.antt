-- What touches cost is the price of what they count.
use Rattle.mem_system.proofs.TallyPrices.{price_law, price_of_all_law, price_of_none, price_of_sum}
use Rattle.mem_system.proofs.tallies.prices.Goals as goal

pub returns-clause-touch : goal.returns-clause-touch
returns-clause-touch c = price_law

pub returns-clause-touches : goal.returns-clause-touches
returns-clause-touches c = price_of_all_law

pub returns-clause-none : goal.returns-clause-none
returns-clause-none c = price_of_none

pub returns-clause-sum : goal.returns-clause-sum
returns-clause-sum c = price_of_sum
