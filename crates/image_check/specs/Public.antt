-- What all domains may know of an image: the hardware, the schedule, and the mailboxes.
use Rattle.std.specs.Prelude.{ℕ, List, length, map}
use Rattle.image_record.specs.Record.{Raw}
pub use Rattle.hardware_check.specs.Hardware.{Hardware}
use Rattle.hardware_check.specs.Hardware.{hardware_of}
use Rattle.sched_table.specs.declared.schedule.Entry.{Entry}
use Rattle.schedule_check.specs.Schedule.{entry_of}
use Rattle.schedule_check.specs.Mail.{box_of}

pub record Public : Type 0 where
  pub version : ℕ  -- of the image's format, 1 or 2
  pub hardware : Hardware
  pub schedule : List Entry
  pub domains : ℕ  -- how many there are
  pub mail : List (ℕ × ℕ)  -- the boxes by their numbers: from which domain, and to which

unfoldable pub public_of : Raw → Public
public_of i = record {
  version = i.version;
  hardware = hardware_of i;
  schedule = map entry_of i.schedule;
  domains = length i.domains;
  mail = map box_of i.mail;
}
