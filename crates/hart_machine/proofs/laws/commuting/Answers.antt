use Rattle.event_orders.proofs.Commuting.{commute, pass}
use Rattle.hart_machine.specs.HartMachine.{machine_of}
use Rattle.hart_machine.proofs.IsMachine.{is_machine}
use Rattle.hart_machine.proofs.laws.commuting.Goals as goal

pub returns : goal.returns
returns c =
    record { commute = λ i r. commute (machine_of i) (is_machine i r); pass = λ i r. pass (machine_of i) (is_machine i r) }
