use Rattle.std.proofs.Common.{ℕ, ◌<◌, ◌≤◌, length}
use Rattle.std.specs.Prelude.{slice_index}
use Rattle.frame_colours.proofs.pool.place_in.Given as goal

abbrev pub invariant-loop-place : goal.invariant-loop-place
invariant-loop-place l = (l.place ≤ length l.numbers) × ((k : ℕ) → l.place ≤ k → k < length l.numbers → slice_index l.numbers k < l.number)

abbrev pub decreases-loop-place : goal.decreases-loop-place
decreases-loop-place l = l.place
