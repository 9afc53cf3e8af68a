use Rattle.std.proofs.Common.{◌≡◌, length, Some, sym, subst, subst₂, arith}
use Rattle.std.specs.Prelude.{slice_index}
use Rattle.mail_slots.specs.Boxes.{Boxes}
use Rattle.call_table.specs.declared.Reply.{Reply}
use Rattle.call_table.specs.Domain.{Dom}
use Rattle.call_table.specs.Mail.{Storage, send_word, receive_word}
use Rattle.call_table.specs.MailLaws.{Left}
use Rattle.kernel_call.specs.Models.{dom_model}
use Rattle.kernel_call.specs.Mailboxes.{ComesTo, HasCalled}
use Rattle.kernel_call.proofs.TiesCalls.{facts_still}
use Rattle.kernel_call.proofs.TiesMail.{sends, receives, no_send, on_boxes_called}
use Rattle.kernel_call.proofs.mailboxes.mail_call.Goals as goal
use Rattle.kernel_call.proofs.mailboxes.mail_call.Goals.{then-number-from, else-number-from}

pub returns-clause-calls : goal.returns-clause-calls
returns-clause-calls c e readings replies m h logged kept =
    let d : Dom = dom_model c.args.domain.now readings replies in
    let a = slice_index c.args.args 0 in
    let b = slice_index c.args.args 1 in
    let k = slice_index c.args.args 2 in
    let s : Storage = record { mem = m; boxes = c.args.mail.now } in
    let same : e.number ≡ c.args.domain.now.number = sym h.has.number in
    let facts =
    facts_still e c.args.memory.now m c.args.domain.now c.reply_to.new.domain h c.reply_to.ensures.keeps.map
    c.reply_to.ensures.keeps.calls c.reply_to.ensures.keeps.number c.reply_to.ensures.pool c.reply_to.ensures.caps in
    let stands = c.reply_to.ensures.becomes readings replies logged kept in
    elim c.if-number-from.branch [
      | then-number-from w ↦
          let to = w.send-reply.ensures.comes_to e d same in
          subst (λ (r : Left). HasCalled e c.args.memory.now c.if-number-from.mail c.reply_to.new.domain c.args.number (length replies)
          (record { reply = Some c.reply_to.result; work = c.plain.result }) r)
          (sym (sends e d a b k s c.args.number (omega (arith, w.if-number-from.true, c.from.ensures, c.number.ensures.value))))
          (on_boxes_called e s c.args.memory.now c.reply_to.new.domain c.if-number-from.mail c.args.number (length replies) d
          (send_word e d a b c.args.mail.now) c.if-number-from.reply c.reply_to.result c.plain.result
          (subst₂ (λ (boxes : Boxes) (reply : Reply). ComesTo (send_word e d a b c.args.mail.now) boxes reply d) (sym w.mail-is) (sym w.reply-is) to)
          (omega arith) c.reply_to.ensures.reply stands facts c.plain.ensures.work c.requires.number)
      | else-number-from w ↦
          let to = w.receive-reply.ensures.comes_to e d same in
          subst (λ (r : Left). HasCalled e c.args.memory.now c.if-number-from.mail c.reply_to.new.domain c.args.number (length replies)
          (record { reply = Some c.reply_to.result; work = c.plain.result }) r)
          (sym (receives e d a b k s c.args.number (no_send c.args.number c.requires.number
          (λ is. w.if-number-from.false (omega (arith, is, c.from.ensures, c.number.ensures.value))))))
          (on_boxes_called e s c.args.memory.now c.reply_to.new.domain c.if-number-from.mail c.args.number (length replies) d
          (receive_word e d a c.args.mail.now) c.if-number-from.reply c.reply_to.result c.plain.result
          (subst₂ (λ (boxes : Boxes) (reply : Reply). ComesTo (receive_word e d a c.args.mail.now) boxes reply d) (sym w.mail-is) (sym w.reply-is) to)
          (omega arith) c.reply_to.ensures.reply stands facts c.plain.ensures.work c.requires.number)
    ]
