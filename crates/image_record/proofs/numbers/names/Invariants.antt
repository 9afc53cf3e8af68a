use Rattle.std.proofs.Common.{◌≡◌, drop}
use Rattle.image_record.specs.Numbers as spec
use Rattle.image_record.proofs.numbers.names.Given as goal

abbrev pub invariant-loop-other : goal.invariant-loop-other
invariant-loop-other l = spec.names (drop l.other-index l.numbers) l.number ≡ spec.names l.numbers l.number
