-- How the fields of a `ThreadSet` are seen as its eight threads.
use Rattle.std.specs.Prelude.{◌+◌, take, drop}
use Rattle.thread_set.specs.Threads.{Threads}
use Rattle.thread_set.specs.declared.ThreadSet.{ThreadSet}

-- the current thread stands apart, and its place among the others is stale
abbrev pub threads_model : ThreadSet → Threads
threads_model set = record {
  before = take set.number set.others;
  current = set.active;
  after = drop (set.number + 1) set.others;
}
