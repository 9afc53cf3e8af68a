-- The facts hold, and each call, with a delivery before it, replies three times at most.
use Rattle.std.proofs.Common.{◌≤◌, ◌+◌, ◌*◌, ◌^◌}
use Rattle.kernel_call.specs.Facts.{Valid}
use Rattle.machine_tests.proofs.whole_machine.calls.first_wrong.Given as goal

abbrev pub invariant-loop-step : goal.invariant-loop-step
invariant-loop-step l = record {
  valid : Valid l.memory l.domain;
  replies : l.domain.replies.count ≤ 2 ^ 62 + 3 * l.step;
}
