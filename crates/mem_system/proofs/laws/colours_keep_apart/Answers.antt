-- Colours keep apart.
use Rattle.mem_system.proofs.TouchLaws.{apart, pinned_stay}
use Rattle.mem_system.proofs.laws.colours_keep_apart.Goals as goal

pub returns-clause-apart : goal.returns-clause-apart
returns-clause-apart c = apart

pub returns-clause-pinned : goal.returns-clause-pinned
returns-clause-pinned c = pinned_stay
