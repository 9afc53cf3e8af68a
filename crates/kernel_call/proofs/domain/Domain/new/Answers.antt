-- A domain that was just made has done nothing, and has the parts that it was made of.
use Rattle.std.proofs.Common.{refl}
use Rattle.kernel_call.proofs.domain.Domain.new.Goals as goal

pub returns : goal.returns
returns c = record {
  made = record {
    status = refl;
    retired = refl;
    readings = c.in_ok-readings.ensures.readings;
    replies = c.in_ok-readings.ensures.replies;
    printed = c.in_ok-readings.ensures.printed;
  };
  pool = refl;
  tables = refl;
  kept = refl;
  caps = refl;
  map = refl;
  interrupts = refl;
  threads = refl;
  layout = refl;
  calls = refl;
  number = refl;
}

pub invariant_of-result : goal.invariant_of-result
invariant_of-result c = record { room = c.in_ok-readings.ensures.room }
