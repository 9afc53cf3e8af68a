use Rattle.std.proofs.Common.{◌≡◌, ℕ, length, subst}
use Rattle.phys_mem.specs.Contents.{Contents}
use Rattle.rv_core.specs.Registers.{register}
use Rattle.kernel_clone.specs.Permissions.{permitted}
use Rattle.mail_slots.specs.Boxes.{Boxes}
use Rattle.call_table.specs.Claims.{Estate}
use Rattle.call_table.specs.Domain.{Dom}
use Rattle.call_table.specs.Calls.{number_made}
use Rattle.call_table.specs.Mail.{Storage, called_of, called}
use Rattle.kernel_call.specs.declared.domain.Domain.{Domain}
use Rattle.kernel_call.specs.declared.outcome.Outcome.{Outcome}
use Rattle.kernel_call.specs.Models.{dom_model}
use Rattle.kernel_call.specs.Mailboxes.{HasCalled}
use Rattle.domain_step.proofs.instruction.answer.Goals as goal

-- a call by what the registers hold, of the calls that the estate has
module _ (e : Estate) (d : Dom) (s : Storage) (memory : Contents) (mail : Boxes) (new : Domain) (before : ℕ)
    (outcome : Outcome) where
  Called : ℕ → ℕ → ℕ → ℕ → ℕ → Type 0
  Called calls number x y z =
      HasCalled e memory mail new (permitted calls number) before outcome (called_of e d (permitted calls number) x y z s)

  by_registers : (calls number x y z : ℕ) → calls ≡ e.calls → number ≡ register d.threads.current.regs 17
      → x ≡ register d.threads.current.regs 10 → y ≡ register d.threads.current.regs 11
      → z ≡ register d.threads.current.regs 12 → Called calls number x y z
      → HasCalled e memory mail new (number_made e d) before outcome (called e d s)
  unfolding called Called
  by_registers calls number x y z same is_number is_x is_y is_z has =
      let regs = d.threads.current.regs in
      let a = subst (λ (n : ℕ). Called n number x y z) same has in
      let b = subst (λ (n : ℕ). Called e.calls n x y z) is_number a in
      let c = subst (λ (n : ℕ). Called e.calls (register regs 17) n y z) is_x b in
      let f = subst (λ (n : ℕ). Called e.calls (register regs 17) (register regs 10) n z) is_y c in
      subst (λ (n : ℕ). Called e.calls (register regs 17) (register regs 10) (register regs 11) n) is_z f

pub returns-clause-calls : goal.returns-clause-calls
unfolding Called
returns-clause-calls c = λ e readings replies m h logged kept.
    let d = c.args.domain.now in
    by_registers e (dom_model d readings replies) (record { mem = m; boxes = c.args.mail.now })
    c.call.new.memory c.call.new.mail c.call.new.domain (length replies) c.call.result
    d.calls c.get-number.result c.get.result c.get-2.result c.get-3.result h.has.calls
    c.get-number.ensures.word c.get.ensures.word c.get-2.ensures.word c.get-3.ensures.word
    (c.call.ensures.calls e readings replies m h logged kept)
