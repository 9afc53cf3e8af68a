use Rattle.std.proofs.Common.{◌≡◌, take}
use Rattle.domain_view.specs.Models.{view_model}
use Rattle.world_view.specs.View as spec
use Rattle.tp_report.proofs.report.memory_sum.Given as goal

abbrev pub invariant-loop-i : goal.invariant-loop-i
invariant-loop-i l = l.sum ≡ spec.memory_sum (take l.i (view_model l.view).frames)
