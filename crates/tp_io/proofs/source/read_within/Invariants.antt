-- The loop that reads to the end.
use Rattle.std.proofs.Common.{◌≡◌, ◌+◌, ◌-◌, ◌≤◌, length}
use Rattle.tp_io.specs.Bytes.{before_known}
use Rattle.tp_io.proofs.source.read_within.Given as goal

abbrev pub invariant-loop-buf : goal.invariant-loop-buf
invariant-loop-buf g l = record {
  within : length l.found.items ≤ l.most + 1;
  so_far : g.S.Source.left l.fn.source ≡ before_known l.found.items (g.S.Source.left l.source);
  steady : g.S.Source.faults l.source ≡ g.S.Source.faults l.fn.source;
}

abbrev pub decreases-loop-buf : goal.decreases-loop-buf
decreases-loop-buf g l = l.most + 1 - length l.found.items
