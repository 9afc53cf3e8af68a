use Rattle.std.proofs.Common.{arith, length}
use Rattle.call_table.specs.Domain.{Dom, signalled, done}
use Rattle.kernel_call.specs.Models.{dom_model}
use Rattle.kernel_call.proofs.TiesThreads.{signal_refused, signal_done, signal_more, then_becomes, answered_refused, answered_done}
use Rattle.kernel_call.proofs.threads.signal.Goals as goal

pub returns-in-Err-clause-answers : goal.returns-in-Err-clause-answers
returns-in-Err-clause-answers c e readings replies m logged kept =
    let d = dom_model c.args.domain.now readings replies in
    answered_refused m (length replies) c.reply_to.new.domain _ d c.in-Err.error c.reply.result c.reply_to.result
    (signal_refused d c.args.a m c.line_at.result (c.line_at.ensures.finds readings replies m) c.in-Err.error c.in-Err.is)
    (omega arith) c.reply.ensures.value c.reply_to.ensures.reply (c.reply_to.ensures.becomes readings replies logged kept)

pub returns-clause-answers : goal.returns-clause-answers
returns-clause-answers c e readings replies m logged kept =
    let d : Dom = dom_model c.args.domain.now readings replies in
    answered_done m (length replies) c.reply_to-2.new.domain _ (signalled c.in-Ok.line d) 0 c.reply_to-2.result
    (signal_done d c.args.a m c.line_at.result (c.line_at.ensures.finds readings replies m) c.in-Ok.line c.in-Ok.is)
    (signal_more c.in-Ok.line d) c.reply_to-2.ensures.reply
    (then_becomes c.signal_line.new.domain c.reply_to-2.new.domain (signalled c.in-Ok.line d) (done 0)
    (c.signal_line.ensures.becomes readings replies logged kept) c.reply_to-2.ensures.becomes)
