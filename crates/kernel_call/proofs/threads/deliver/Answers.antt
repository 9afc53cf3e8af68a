use Rattle.std.proofs.Common.{◌≡◌, ℕ, Some, sym, ap₂, ◌∙◌}
use Rattle.irq_partition.specs.Interrupts as irq
use Rattle.irq_partition.specs.Interrupts.{Interrupts}
use Rattle.call_table.specs.Domain.{Dom, signalled, delivered_on}
use Rattle.kernel_call.specs.Models.{dom_model}
use Rattle.kernel_call.proofs.TiesThreads.{stands_as}
use Rattle.kernel_call.proofs.threads.deliver.Goals as goal

pub returns-clause-delivers : goal.returns-clause-delivers
unfolding delivered_on irq.delivered
returns-clause-delivers c line is readings replies logged kept =
    let d : Dom = dom_model c.args.domain.now readings replies in
    let told : Some c.deliver-due.result ≡ Some line = sym c.deliver-due.ensures.line ∙ is in
    let same : c.deliver-due.result ≡ line = cc told in
    stands_as c.signal_line.new.domain _ (delivered_on line d)
    (ap₂ (λ (n : ℕ) (i : Interrupts). signalled n (record d { delivered = i.delivered; bits = i.bits })) same
    c.deliver-due.ensures.delivered)
    (c.signal_line.ensures.becomes readings replies logged kept)
