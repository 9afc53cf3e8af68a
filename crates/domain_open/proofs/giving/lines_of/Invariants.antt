use Rattle.std.proofs.Common.{◌≡◌}
use Rattle.image_check.specs.Models.{own_model}
use Rattle.domain_open.proofs.SlotLaws.{lines_before}
use Rattle.domain_open.proofs.giving.lines_of.Given as goal

abbrev pub invariant-loop-slot : goal.invariant-loop-slot
invariant-loop-slot l = l.caps ≡ lines_before (own_model l.own) l.slot
