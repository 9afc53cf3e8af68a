-- How many instructions a domain runs.
use Rattle.domain_events.proofs.Retired.{retired_law, whole_retired_law}
use Rattle.domain_events.proofs.laws.instructions.Goals as goal

pub returns : goal.returns
returns c = record { alone = retired_law; whole = whole_retired_law }
