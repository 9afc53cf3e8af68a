use Rattle.std.proofs.Common.{◌≡◌, None}
use Rattle.hart_tests.proofs.orders.run.Given as goal

abbrev pub invariant-loop : goal.invariant-loop
invariant-loop g l = record { image : l.harts.0 ≡ l.fn.harts.0; all : l.harts.1.off ≡ None }
