use Rattle.hart_orders.proofs.RunThrough.{harts_law, through}
use Rattle.hart_orders.proofs.laws.ends.Goals as goal

pub returns : goal.returns
returns c = record { harts = harts_law; through = through }
