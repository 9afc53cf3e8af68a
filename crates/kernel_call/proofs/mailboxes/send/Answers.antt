use Rattle.std.proofs.Common.{◌∙◌, ℕ, ap, Err}
use Rattle.kernel_call.proofs.TiesMail.{refused_so, sent_as, sent_done}
use Rattle.kernel_call.proofs.mailboxes.send.Goals as goal

pub returns-in-Ok-clause-comes_to : goal.returns-in-Ok-clause-comes_to
returns-in-Ok-clause-comes_to c e x same =
    sent_done e x c.args.d c.args.a c.args.b c.args.mail.now c.send.new.self same c.in-Ok.ensures.sent

pub returns-in-Err-clause-comes_to : goal.returns-in-Err-clause-comes_to
returns-in-Err-clause-comes_to c e x same =
    sent_as e x c.args.d c.args.a c.args.b c.args.mail.now c.send.new.self same c.reply.result (Err c.in-Err.refusal)
    c.in-Err.ensures.refused
    (refused_so e x c.args.d c.args.a c.args.b c.args.mail.now c.send.new.self same c.in-Err.refusal c.reply.result
    c.in-Err.ensures.unchanged
    (c.reply.ensures.value ∙ ap (λ (code : ℕ). record { code = code; value = 0 }) c.mail_error.ensures.value))
