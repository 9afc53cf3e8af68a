use Rattle.hart_machine.proofs.Reports.{counted_off}
use Rattle.hart_machine.proofs.DrawnOrder.{drawn_by_slots}
use Rattle.hart_machine.proofs.laws.any_order.Goals as goal

pub returns : goal.returns
returns c = record { counted = counted_off; drawn = drawn_by_slots }
