use Rattle.world_view.proofs.harts.Isolation.{hart_mail, hart_arrivals, hart_isolation, two_orders, two_runs}
use Rattle.world_view.proofs.laws.isolation.Goals as goal

pub returns : goal.returns
returns c = record {
  mailed = hart_mail;
  arrivals = hart_arrivals;
  isolated = hart_isolation;
  two_orders = two_orders;
  two_runs = two_runs;
}
