-- What happened is told right.
use Rattle.domain_events.proofs.Seen.{seen_law}
use Rattle.domain_events.proofs.laws.happenings.Goals as goal

pub returns : goal.returns
returns c = record { seen = seen_law }
