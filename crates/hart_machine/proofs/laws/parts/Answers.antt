use Rattle.event_orders.proofs.Slots.{slots_law}
use Rattle.event_orders.proofs.Drawn.{counted_law, drawn_law}
use Rattle.hart_machine.specs.HartMachine.{machine_of}
use Rattle.hart_machine.proofs.IsMachine.{is_machine}
use Rattle.hart_machine.proofs.Reports.{kernel_places}
use Rattle.hart_machine.proofs.laws.parts.Goals as goal

pub returns : goal.returns
returns c = record {
  slots = λ i r. slots_law (machine_of i) (is_machine i r);
  any_order = λ i r. counted_law (machine_of i) (is_machine i r);
  drawn = λ i r. drawn_law (machine_of i) (is_machine i r);
  places = kernel_places;
}
