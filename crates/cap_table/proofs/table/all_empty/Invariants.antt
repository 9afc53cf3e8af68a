-- The places so far are empty.
use Rattle.std.proofs.Common.{◌≡◌, ◌≤◌, None}
use Rattle.std.specs.Prelude.{replicate}
use Rattle.cap_table.proofs.table.all_empty.Given as goal

abbrev pub invariant-loop : goal.invariant-loop
invariant-loop g l = (l.counter ≤ 64) × (l.places.items ≡ replicate l.counter None) × (64 ≤ l.places.cap)
