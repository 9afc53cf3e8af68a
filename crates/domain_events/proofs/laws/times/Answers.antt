-- What the events of a slot add up to.
use Rattle.domain_events.proofs.Times.{cycles_law, fills_law, own_slots_law}
use Rattle.domain_events.proofs.laws.times.Goals as goal

pub returns : goal.returns
returns c = record { cycles = cycles_law; fill = fills_law; slots = own_slots_law }
