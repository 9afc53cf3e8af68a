-- The law of the machine.
use Rattle.hardware_check.proofs.Built.{hardware_law}
use Rattle.hardware_check.proofs.laws.hardware.Goals as goal

pub returns : goal.returns
returns c = record { hardware = hardware_law }
