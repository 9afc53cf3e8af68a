use Rattle.std.proofs.Common.{◌≡◌, ◌++◌, drop, map}
use Rattle.domain_check.specs.Models.{named_model}
use Rattle.domain_check.proofs.capabilities.caps_from.Given as goal

abbrev pub invariant-loop-named : goal.invariant-loop-named
invariant-loop-named l = l.caps.items ++ map named_model (drop l.named-index l.slots) ≡ map named_model l.slots
