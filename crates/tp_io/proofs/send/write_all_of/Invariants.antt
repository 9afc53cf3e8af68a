-- The loop that writes a piece.
use Rattle.std.proofs.Common.{◌≡◌, ◌-◌, ◌≤◌, length, take}
use Rattle.std.specs.Prelude.{[]}
use Rattle.tp_io.specs.Sends.{Sent}
use Rattle.tp_io.specs.Sink.{state}
use Rattle.tp_io.proofs.send.write_all_of.Given as goal

abbrev pub invariant-loop-sent : goal.invariant-loop-sent
invariant-loop-sent g l = record {
  within : l.sent ≤ length l.piece;
  so_far : Sent (state g.K.Sink l.fn.out) (state g.K.Sink l.out) (take l.sent l.piece);
  untouched : l.piece ≡ [] → l.out ≡ l.fn.out;
}

abbrev pub decreases-loop-sent : goal.decreases-loop-sent
decreases-loop-sent g l = length l.piece - l.sent
