use Rattle.std.proofs.Common.{◌≡◌, drop}
use Rattle.sched_table.specs.Schedule.{hart_for}
use Rattle.alone_run.proofs.hart.hart_for.Given as goal

-- no earlier entry names the domain
abbrev pub invariant-loop-k : goal.invariant-loop-k
invariant-loop-k l = hart_for (drop l.k l.schedule) l.d ≡ hart_for l.schedule l.d
