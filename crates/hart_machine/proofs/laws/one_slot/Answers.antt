use Rattle.hart_machine.proofs.OneSlot.{one_slot}
use Rattle.hart_machine.proofs.laws.one_slot.Goals as goal

pub returns : goal.returns
returns c = record { one_slot = one_slot }
