-- What each event takes.
use Rattle.domain_events.proofs.Times.{price_law}
use Rattle.domain_events.proofs.Seen.{total_law}
use Rattle.domain_events.proofs.Moments.{whole_price_law}
use Rattle.domain_events.proofs.laws.prices.Goals as goal

pub returns : goal.returns
returns c = record { alone = price_law; each = whole_price_law; total = total_law }
