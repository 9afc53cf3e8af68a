-- Hits cost least.
use Rattle.mem_system.proofs.TouchLaws.{fetch_least, load_least, store_least, walk_read_least, look_least}
use Rattle.mem_system.proofs.laws.hits_cost_least.Goals as goal

pub returns-clause-fetch : goal.returns-clause-fetch
returns-clause-fetch c = fetch_least

pub returns-clause-load : goal.returns-clause-load
returns-clause-load c = load_least

pub returns-clause-store : goal.returns-clause-store
returns-clause-store c = store_least

pub returns-clause-walk_read : goal.returns-clause-walk_read
returns-clause-walk_read c = walk_read_least

pub returns-clause-look : goal.returns-clause-look
returns-clause-look c = look_least
