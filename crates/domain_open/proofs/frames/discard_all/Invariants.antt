use Rattle.std.proofs.Common.{length}
use Rattle.domain_open.proofs.frames.discard_all.Given as goal

abbrev pub decreases-loop-share : goal.decreases-loop-share
decreases-loop-share l = length l.shares.items
