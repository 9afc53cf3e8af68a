use Rattle.kernel_call.specs.Facts.{Valid}
use Rattle.kernel_tests.proofs.mailboxes.first_wrong.Given as goal

abbrev pub invariant-loop-place : goal.invariant-loop-place
invariant-loop-place l = Valid l.memory l.domain
