-- Memory keeps its frames.
use Rattle.std.proofs.Common.{◌≡◌}
use Rattle.memory_tests.proofs.memory_system.memory_with.Given as goal

abbrev pub invariant-loop-place : goal.invariant-loop-place
invariant-loop-place l = l.mem.frames ≡ 64
