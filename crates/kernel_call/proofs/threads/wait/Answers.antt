use Rattle.std.proofs.Common.{arith, ◌≡◌, ℕ, false, None, length, ap, ap₂, sym, refl, ◌∙◌}
use Rattle.thread_set.specs.Threads.{Threads, with_current}
use Rattle.call_table.specs.Domain.{Dom, is_set, with_bit, done, waiting}
use Rattle.kernel_call.specs.Models.{dom_model}
use Rattle.kernel_call.proofs.TiesThreads.{wait_refused, wait_done, wait_blocked, bit_given, clear_already, stands_as, answered_refused, answered_done, answered_not}
use Rattle.kernel_call.proofs.threads.wait.Goals as goal

pub returns-in-Err-clause-answers : goal.returns-in-Err-clause-answers
returns-in-Err-clause-answers c e readings replies m logged kept =
    let d = dom_model c.args.domain.now readings replies in
    answered_refused m (length replies) c.reply_to.new.domain _ d c.in-Err.error c.reply.result c.reply_to.result
    (wait_refused d c.args.a m c.line_at.result (c.line_at.ensures.finds readings replies m) c.in-Err.error c.in-Err.is)
    (omega arith) c.reply.ensures.value c.reply_to.ensures.reply (c.reply_to.ensures.becomes readings replies logged kept)

pub returns-then-poll-clause-answers : goal.returns-then-poll-clause-answers
unfolding with_bit
returns-then-poll-clause-answers c e readings replies m logged kept =
    let d : Dom = dom_model c.args.domain.now readings replies in
    let line : ℕ = c.in-Ok.line in
    answered_done m (length replies) c.reply_to-then-poll.new.domain _ (with_bit line false d) 1 c.reply_to-then-poll.result
    (wait_done d c.args.a m c.line_at.result (c.line_at.ensures.finds readings replies m) line c.in-Ok.is
    (sym c.poll.ensures.was_set ∙ c.if-poll.true))
    (omega arith) c.reply_to-then-poll.ensures.reply
    (stands_as c.reply_to-then-poll.new.domain _ (done 1 (with_bit line false d))
    (ap (done 1) (bit_given d c.args.domain.now.interrupts c.poll.new.self line false c.poll.ensures.cleared refl refl))
    (c.reply_to-then-poll.ensures.becomes readings replies logged kept))

pub returns-clause-answers : goal.returns-clause-answers
unfolding waiting with_current
returns-clause-answers c e readings replies m logged kept =
    let d : Dom = dom_model c.args.domain.now readings replies in
    let line : ℕ = c.in-Ok.line in
    let clear : is_set d line ≡ false = sym c.poll.ensures.was_set ∙ c.if-poll.false in
    answered_not m (length replies) _ _ (waiting line d) None
    (wait_blocked d c.args.a m c.line_at.result (c.line_at.ensures.finds readings replies m) line c.in-Ok.is clear)
    (omega arith) refl
    (record {
      same = ap₂ (λ (x : Dom) (ts : Threads). record x { threads = ts })
          (bit_given d c.args.domain.now.interrupts c.poll.new.self line false c.poll.ensures.cleared refl
          refl ∙ clear_already d line clear)
          c.block.ensures.blocked;
      readings = logged;
      replies = kept;
    })
