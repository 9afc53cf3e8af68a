use Rattle.std.proofs.Common.{ap, ◌∙◌}
use Rattle.thread_set.specs.Threads.{Threads}
use Rattle.call_table.specs.Domain.{Dom, turned, done}
use Rattle.kernel_call.specs.Models.{dom_model}
use Rattle.kernel_call.proofs.threads.yield_turn.Goals as goal

pub returns-clause-becomes : goal.returns-clause-becomes
unfolding turned
returns-clause-becomes c readings replies logged kept =
    let h = c.reply_to-reply.ensures.becomes readings replies logged kept in
    let y : Dom = done 0 (dom_model c.args.domain.now readings replies) in
    let mid = c.reply_to-reply.new.domain in
    record {
      same =
          ap (λ (ts : Threads). record (dom_model mid y.readings y.replies) { threads = ts })
          c.yield_now.ensures.yielded ∙ ap turned h.same;
      readings = h.readings;
      replies = h.replies;
    }
