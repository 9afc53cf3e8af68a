use Rattle.thread_set.specs.Models.{threads_model}
use Rattle.thread_set.proofs.Parts.{eight-model}
use Rattle.thread_set.proofs.Changes.{waiter-below}
use Rattle.thread_set.proofs.ThreadSet.wake.Goals as goal

pub thread-requires : goal.thread-requires
thread-requires c = record {
  below =
      waiter-below (threads_model c.args.self.now) c.args.line c.in-Some.t (eight-model c.args.self.now)
      c.in-Some.ensures.waiter;
}

pub put-requires : goal.put-requires
put-requires c = record {
  below =
      waiter-below (threads_model c.args.self.now) c.args.line c.in-Some.t (eight-model c.args.self.now)
      c.in-Some.ensures.waiter;
}
