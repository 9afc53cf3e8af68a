use Rattle.std.proofs.Common.{◌≡◌, []}
use Rattle.repl_policy.specs.Packed.{pack, unlisted}
use Rattle.repl_policy.proofs.order.fresh.Given as goal

abbrev pub invariant-loop-way : goal.invariant-loop-way
invariant-loop-way l = l.state ≡ pack (unlisted l.way [])
