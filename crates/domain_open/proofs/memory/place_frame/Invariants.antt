use Rattle.std.proofs.Common.{◌≡◌}
use Rattle.phys_mem.specs.Holds.{Holds}
use Rattle.phys_mem.specs.Mem.{Mem}
use Rattle.domain_open.proofs.Loading.{filled}
use Rattle.domain_open.proofs.memory.place_frame.Given as goal

abbrev pub invariant-loop-i : goal.invariant-loop-i
invariant-loop-i g l = record {
  placed : (m : Mem) → Holds l.fn.memory m
      → Holds l.memory (filled m l.fn.frame (g.W.Words.words l.words) l.i);
  frames : l.memory.frames ≡ l.fn.memory.frames;
}
