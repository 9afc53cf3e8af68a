use Rattle.std.proofs.Common.{◌∙◌, length, refl, sym, subst}
use Rattle.std.specs.Prelude.{slice_index}
use Rattle.kernel_clone.specs.Permissions.{permitted}
use Rattle.call_table.specs.Domain.{Dom}
use Rattle.call_table.specs.Calls.{call_of}
use Rattle.call_table.specs.Mail.{Storage}
use Rattle.call_table.specs.MailLaws.{Left}
use Rattle.kernel_call.specs.Models.{dom_model}
use Rattle.kernel_call.specs.Mailboxes.{HasCalled}
use Rattle.kernel_call.proofs.TiesMail.{on_mem, on_memory_called}
use Rattle.kernel_call.proofs.calls.call.Goals as goal

pub returns-clause-calls : goal.returns-clause-calls
returns-clause-calls c e readings replies m h logged kept =
    let d : Dom = dom_model c.args.domain.now readings replies in
    let n = permitted c.args.domain.now.calls c.args.number in
    let s : Storage = record { mem = m; boxes = c.args.mail.now } in
    let a = slice_index c.args.args 0 in
    let b = slice_index c.args.args 1 in
    let k = slice_index c.args.args 2 in
    subst (λ (r : Left). HasCalled e c.call_on_memory.new.memory c.args.mail.now c.call_on_memory.new.domain n (length replies)
    c.call_on_memory.result r) (sym (on_mem e d a b k s n (sym c.is_mail_made.ensures.value ∙ c.if-is_mail_made.false)))
    (on_memory_called e s c.call_on_memory.new.memory c.call_on_memory.new.domain c.args.mail.now n (length replies)
    c.call_on_memory.result (call_of e d n a b k m) refl
    (c.call_on_memory.ensures.calls e readings replies m h logged kept))
