use Rattle.std.proofs.Common.{◌≡◌}
use Rattle.thread_set.specs.Threads.{end_live}
use Rattle.thread_set.proofs.Ended.{IsEndedTo}
use Rattle.thread_set.proofs.ThreadSet.end_all.Given as goal

abbrev pub invariant-loop-t : goal.invariant-loop-t
invariant-loop-t l = record {
  others : IsEndedTo l.t l.fn.self.others l.self.others;
  active : l.self.active ≡ end_live l.fn.self.active;
  number : l.self.number ≡ l.fn.self.number;
}
