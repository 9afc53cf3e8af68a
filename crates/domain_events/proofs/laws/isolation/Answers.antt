-- The events of a domain are those of it alone.
use Rattle.domain_events.proofs.Theorems.{events_law, alone_events_law, two_run_events_law}
use Rattle.domain_events.proofs.Moments.{past_law, now_law}
use Rattle.domain_events.proofs.Same.{same_events_law}
use Rattle.domain_events.proofs.laws.isolation.Goals as goal

pub returns : goal.returns
returns c = record {
  mailed = events_law;
  alone = alone_events_law;
  two_runs = two_run_events_law;
  past = past_law;
  now = now_law;
  same_events = same_events_law;
}
