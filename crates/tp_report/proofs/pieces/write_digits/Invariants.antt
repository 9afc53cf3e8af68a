use Rattle.std.proofs.Common.{◌-◌, ◌≤◌, length, take}
use Rattle.hex.specs.Hex.{encode_lower}
use Rattle.tp_report.specs.Batches.{Added, holding}
use Rattle.tp_report.proofs.pieces.write_digits.Given as goal

abbrev pub invariant-loop-sent : goal.invariant-loop-sent
invariant-loop-sent g l = record {
  within : l.sent ≤ length l.bytes;
  so_far : Added (holding g.K.Sink l.fn.out l.fn.held) (holding g.K.Sink l.out l.held)
      (encode_lower (take l.sent l.bytes));
}

abbrev pub decreases-loop-sent : goal.decreases-loop-sent
decreases-loop-sent g l = length l.bytes - l.sent
