use Rattle.std.proofs.Common.{arith, ◌≡◌, ◌∙◌, ℕ, false, length, ap, ap₂, refl}
use Rattle.call_table.specs.Domain.{Dom, is_set, with_bit, done}
use Rattle.call_table.specs.Calls.{bit_value}
use Rattle.kernel_call.specs.Models.{dom_model}
use Rattle.kernel_call.proofs.TiesThreads.{poll_refused, poll_done, bit_given, stands_as, answered_refused, answered_done}
use Rattle.kernel_call.proofs.threads.poll.Goals as goal

pub returns-in-Err-clause-answers : goal.returns-in-Err-clause-answers
returns-in-Err-clause-answers c e readings replies m logged kept =
    let d = dom_model c.args.domain.now readings replies in
    answered_refused m (length replies) c.reply_to.new.domain _ d c.in-Err.error c.reply.result c.reply_to.result
    (poll_refused d c.args.a m c.line_at.result (c.line_at.ensures.finds readings replies m) c.in-Err.error c.in-Err.is)
    (omega arith) c.reply.ensures.value c.reply_to.ensures.reply (c.reply_to.ensures.becomes readings replies logged kept)

pub returns-clause-answers : goal.returns-clause-answers
unfolding with_bit
returns-clause-answers c e readings replies m logged kept =
    let d : Dom = dom_model c.args.domain.now readings replies in
    let line : ℕ = c.in-Ok.line in
    let value : c.from-value.result ≡ bit_value (is_set d line) = c.from-value.ensures ∙ ap bit_value c.poll.ensures.was_set in
    answered_done m (length replies) c.reply_to-2.new.domain _ (with_bit line false d) (bit_value (is_set d line)) c.reply_to-2.result
    (poll_done d c.args.a m c.line_at.result (c.line_at.ensures.finds readings replies m) line c.in-Ok.is)
    (omega arith) (c.reply_to-2.ensures.reply ∙ ap (λ (n : ℕ). record { code = 0; value = n }) value)
    (stands_as c.reply_to-2.new.domain _ (done (bit_value (is_set d line)) (with_bit line false d))
    (ap₂ (λ (n : ℕ) (x : Dom). done n x) value
    (bit_given d c.args.domain.now.interrupts c.poll.new.self line false c.poll.ensures.cleared refl refl))
    (c.reply_to-2.ensures.becomes readings replies logged kept))
