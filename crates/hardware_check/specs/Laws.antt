-- What the rules of the machine give.
use Rattle.std.specs.Prelude.{◌≡◌, None}
use Rattle.image_record.specs.Record.{Raw}
use Rattle.hardware_check.specs.Hardware.{IsHardware, hardware_of}
use Rattle.hardware_check.specs.Rules.{k3, k4, k5, k6, k11}

-- no rule of the machine but that of the shared region has a broken case
pub record KeepsParts (i : Raw) : Type 0 where
  pub parts : k3 i ≡ None
  pub frames : k4 i ≡ None
  pub colours : k5 i ≡ None
  pub costs : k6 i ≡ None

pub record KeepsHardware (i : Raw) : Type 0 where
  pub parts : KeepsParts i
  pub shared : k11 i ≡ None

abbrev pub HardwareLaw : Type 0
HardwareLaw = (i : Raw) → KeepsHardware i → IsHardware (hardware_of i)
