use Rattle.repl_policy.specs.Halves.{depth_of}
use Rattle.repl_policy.proofs.Newest.{oldest_is_another, victim_in_is_another}
use Rattle.repl_policy.proofs.Marking.{unmarked_is_another}
use Rattle.repl_policy.proofs.touched_way_stays.Goals as goal

pub returns-clause-lru : goal.returns-clause-lru
returns-clause-lru c = λ list. oldest_is_another c.args.ways c.args.way list c.requires.two

pub returns-clause-plru : goal.returns-clause-plru
returns-clause-plru c =
    λ taken list. victim_in_is_another (depth_of c.args.ways) c.args.ways c.args.way list taken.2
    c.requires.two c.requires.below

pub returns-clause-nmru : goal.returns-clause-nmru
returns-clause-nmru c = λ list. unmarked_is_another c.args.ways c.args.way list c.requires.two

pub returns-clause-nmru_filled : goal.returns-clause-nmru_filled
returns-clause-nmru_filled c = λ list. unmarked_is_another c.args.ways c.args.way list c.requires.two
