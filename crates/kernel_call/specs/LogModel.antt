-- What the code's logs stand for.
use Rattle.kernel_call.specs.Logs as spec
use Rattle.kernel_call.specs.declared.log.Log.{Log}

abbrev pub log_model : {T : Type 0} → Log T → spec.Log T
log_model l = record { count = l.count; last = l.last; first = l.first.items }
