use Rattle.hart_machine.proofs.Reports.{through, slot_by_slot_law, slots, switch_order}
use Rattle.hart_machine.proofs.LeastClock.{ran_law}
use Rattle.hart_machine.proofs.laws.slots.Goals as goal

pub returns : goal.returns
returns c = record { ran = ran_law; through = through; same = slot_by_slot_law; slots = slots; order = switch_order }
