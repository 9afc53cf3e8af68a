-- The loop that hands on full batches.
use Rattle.std.proofs.Common.{◌+◌, ◌-◌, ◌≤◌, length, take}
use Rattle.tp_report.specs.Batches.{Added, holding}
use Rattle.tp_report.proofs.batch.Batch.add.Given as goal

abbrev pub invariant-loop-self : goal.invariant-loop-self
invariant-loop-self g l = record {
  within : l.added ≤ length l.text;
  so_far : Added (holding g.K.Sink l.fn.out l.fn.self) (holding g.K.Sink l.out l.self) (take l.added l.text);
}

abbrev pub decreases-loop-self : goal.decreases-loop-self
decreases-loop-self g l = length l.text - l.added + length l.self
