use Rattle.std.proofs.Common.{refl}
use Rattle.thread_set.specs.Models.{threads_model}
use Rattle.thread_set.proofs.Parts.{eight-model}
use Rattle.thread_set.proofs.Changes.{vacant-below, vacant-Some, vacant-None}
use Rattle.thread_set.proofs.ThreadSet.spawn.Goals as goal

pub put-requires : goal.put-requires
put-requires c = record {
  below =
      vacant-below (threads_model c.args.self.now) c.in-Some.t (eight-model c.args.self.now)
      c.in-Some.ensures.vacant;
}

pub returns-in-Some-clause-none : goal.returns-in-Some-clause-none
returns-in-Some-clause-none c = (
  (λ e. absurd (cc)),
  (λ all. absurd (vacant-Some (threads_model c.args.self.now) c.in-Some.t c.in-Some.ensures.vacant all)),
)

pub returns-in-None-clause-none : goal.returns-in-None-clause-none
returns-in-None-clause-none c = ((λ e. vacant-None (threads_model c.args.self.now) c.in-None.ensures.vacant), (λ all. refl))
