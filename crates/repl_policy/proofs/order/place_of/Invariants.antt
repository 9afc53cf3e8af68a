use Rattle.std.proofs.Common.{◌≢◌, ◌<◌, ◌-◌, ℕ}
use Rattle.repl_policy.specs.Packed.{way_at}
use Rattle.repl_policy.proofs.order.place_of.Given as goal

abbrev pub invariant-loop-place : goal.invariant-loop-place
invariant-loop-place l = record {
  within : l.place < l.ways;
  newer : (k : ℕ) → k < l.place → way_at l.state k ≢ l.way;
}

abbrev pub decreases-loop-place : goal.decreases-loop-place
decreases-loop-place l = l.ways - l.place
