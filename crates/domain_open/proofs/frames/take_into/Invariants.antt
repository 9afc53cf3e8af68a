use Rattle.std.proofs.Common.{◌≡◌, ◌++◌, take, drop}
use Rattle.domain_open.specs.Placing.{AreZeroed}
use Rattle.domain_open.proofs.frames.take_into.Given as goal

abbrev pub invariant-loop : goal.invariant-loop
invariant-loop g l = record {
  frames : l.frames.items ≡ l.fn.frames.items ++ take l.counter l.fn.pool.free;
  free : l.pool.free ≡ drop l.counter l.fn.pool.free;
  share : l.pool.share ≡ l.fn.pool.share;
  room : l.frames.cap ≡ l.fn.frames.cap;
  zeroed : AreZeroed (take l.counter l.fn.pool.free) l.fn.memory l.memory;
  size : l.memory.frames ≡ l.fn.memory.frames;
}
