use Rattle.sched_table.proofs.Harts.{hart_law, one_hart_law, placed_law, domain_hart_law, hart_there_law}
use Rattle.sched_table.proofs.laws.harts.Goals as goal

pub returns : goal.returns
returns c = record { own = hart_law; one = one_hart_law; placed = placed_law; domain = domain_hart_law; there = hart_there_law }
