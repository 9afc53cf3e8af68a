use Rattle.std.proofs.Common.{arith, rules, ◌≡◌, ◌≢◌, ◌∙◌, sym, ap}
use Rattle.thread_set.specs.Models.{threads_model}
use Rattle.thread_set.specs.Threads.{with_thread}
use Rattle.thread_set.proofs.Parts.{with-current, with-other}
use Rattle.thread_set.proofs.ThreadSet.put.Goals as goal

pub returns-then-t-self : goal.returns-then-t-self
returns-then-t-self c =
    let same : c.args.t ≡ c.args.self.now.number = search rules in
    record {
      put = sym (ap (λ t. with_thread (threads_model c.args.self.now) t c.args.thread) same
          ∙ with-current c.args.self.now.number c.args.self.now.others c.args.self.now.active c.args.thread
          (omega (arith, c.args.self.now.below, c.args.self.now.eight)));
    }

pub returns-else-t-self : goal.returns-else-t-self
returns-else-t-self c =
    let other : c.args.self.now.number ≢ c.args.t = λ e. c.if-t-self.false (sym e) in
    record {
      put = sym (with-other c.args.self.now.number c.args.self.now.others c.args.self.now.active c.args.t c.args.thread
          (omega (arith, c.args.self.now.below, c.args.self.now.eight)) other);
    }
