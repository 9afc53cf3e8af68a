use Rattle.std.proofs.Common.{length}
use Rattle.std.specs.Prelude.{⊤}
use Rattle.kernel_tests.proofs.frames.drained.Given as goal

abbrev pub invariant-loop-frame : goal.invariant-loop-frame
invariant-loop-frame l = ⊤

abbrev pub decreases-loop-frame : goal.decreases-loop-frame
decreases-loop-frame l = length l.pool.free
