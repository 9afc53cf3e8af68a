use Rattle.std.proofs.Common.{sym, ap}
use Rattle.hardware_check.specs.Hardware.{policy_of}
use Rattle.hardware_check.specs.Rules.{is_policy}
use Rattle.hardware_check.proofs.rules.policy_in.Goals as goal

pub returns-in-fifo : goal.returns-in-fifo
returns-in-fifo c = record { known = sym (ap is_policy c.in-fifo.is); value = sym (ap policy_of c.in-fifo.is) }

pub returns-in-plru : goal.returns-in-plru
returns-in-plru c = record { known = sym (ap is_policy c.in-plru.is); value = sym (ap policy_of c.in-plru.is) }

pub returns-in-nmru : goal.returns-in-nmru
returns-in-nmru c = record { known = sym (ap is_policy c.in-nmru.is); value = sym (ap policy_of c.in-nmru.is) }

pub returns-in-lru : goal.returns-in-lru
returns-in-lru c = record { known = sym (ap is_policy c.in-lru.is); value = sym (ap policy_of c.in-lru.is) }
