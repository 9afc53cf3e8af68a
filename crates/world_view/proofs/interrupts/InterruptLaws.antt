-- Which moments are delivered, when, and in whose slots.
use Rattle.phys_mem.specs.Mem.{Mem}
use Rattle.call_table.proofs.MailCalls.{after_called}
use Rattle.std.proofs.Common.{◌≡◌, ℕ, ◌+◌, ◌≤◌, Bool, true, false, length, ◌⊎◌, inl, inr, ap, ◌∙◌, refl, arith}
use Rattle.std.proofs.lemmas.Option.{slice_get_within}
use Rattle.tp_base.specs.Act.{either}
use Rattle.hardware_check.specs.Hardware.{Hardware}
use Rattle.image_check.specs.Own.{Own}
use Rattle.call_table.specs.Domain as domain
use Rattle.call_table.specs.Domain.{Dom, is_running, placed, replied}
use Rattle.call_table.proofs.ThreadLaws.{delivery_counts, call_counts}
use Rattle.world_view.specs.Kernel.{estate, layout, opening_dom}
use Rattle.world_view.specs.Instruction.{stopped, retired_at}
use Rattle.world_view.specs.Event.{Storage, Event, event, instruction}
use Rattle.world_view.specs.Event.Event.{Jump, Deliver, Run}
use Rattle.world_view.specs.Machine.{setting, Local, paid, delivered, happened, step}
use Rattle.world_view.specs.Interrupts.{IsDue}
use Rattle.world_view.proofs.steps.CodeLaws.{step-due}
use Rattle.world_view.proofs.actions.InstructionLaws.{leaves, noted_delivered}
use Rattle.world_view.proofs.steps.EventLaws.{due_moment, moment_due, Fits, event_fits}

-- ---- an event

module _ (p : Hardware) (o : Own) where
  -- an instruction delivers nothing
  instruction_delivers : (t : ℕ) (d : Dom) (s : Storage)
      → (either (instruction p (estate p o) (layout p o) t d s).value).delivered ≡ d.delivered
  unfolding stopped retired_at placed replied
  instruction_delivers t d s =
      leaves p (estate p o) (layout p o) d (λ (x : Dom). x.delivered ≡ d.delivered) (λ code value. refl)
      (λ pc value regs i. noted_delivered i value d)
      (λ r. after_called (estate p o) d (λ (x : Dom) (m : Mem). x.delivered ≡ d.delivered) r (λ code. refl) (λ value. refl)
      (call_counts (estate p o) d r.mem)) t s

  -- no moment is delivered, or the next one, which is due
  abbrev pub Delivers : Local → Local → Type 0
  Delivers s t =
      (t.dom.delivered ≡ s.dom.delivered)
      ⊎ ((t.dom.delivered ≡ s.dom.delivered + 1) × IsDue o s.dom.delivered s.clock)

  happened_delivers : (pinned : Bool) (s : Local) (e : Event) → Fits o s.clock s.dom e
      → Delivers s (happened (setting p o pinned) s e)
  unfolding happened paid delivered
  happened_delivers pinned s (Jump t) fits = inl refl
  happened_delivers pinned s (Deliver line) fits =
      let x = due_moment o s.clock s.dom line fits in
      inr (delivery_counts s.dom line, (x.0, x.1, x.2))
  happened_delivers pinned s Run fits = inl (instruction_delivers s.clock s.dom s.storage)

  pub step_delivers : (end : ℕ) (s : Local) → Delivers s (step (setting p o false) end s)
  unfolding step
  step_delivers end s = happened_delivers false s (event o s.clock end s.dom) (event_fits o s.clock s.dom end)

  -- a moment that is due comes at once
  pub step_prompt : (end : ℕ) (s : Local) → is_running s.dom.status ≡ true → IsDue o s.dom.delivered s.clock
      → (step (setting p o false) end s).dom.delivered ≡ s.dom.delivered + 1
  unfolding delivered
  step_prompt end s runs x =
      ap (λ (t : Local). t.dom.delivered) (step-due (setting p o false) end s x.0.line runs (moment_due o s.clock s.dom x.0 x.1 x.2))
      ∙ delivery_counts s.dom x.0.line

  -- at most all are delivered
  abbrev pub AreFew : Own → Dom → Type 0
  AreFew q d = d.delivered ≤ length q.moments

  few_after : (s t : Local) → Delivers s t → AreFew o s.dom → AreFew o t.dom
  few_after s t (inl same) few = omega (arith, same, few)
  few_after s t (inr next) few =
      let below = slice_get_within o.moments s.dom.delivered next.1.0 next.1.1 in
      let one = next.0 in
      omega (arith, below, one)

-- ---- as it opens

module _ (p : Hardware) where
  pub none_first : (o : Own) → AreFew p o o (opening_dom p o)
  unfolding opening_dom domain.dom_at_entry
  none_first o = omega arith

  pub few_stay : (o : Own) (end : ℕ) (s : Local) → AreFew p o o s.dom
      → AreFew p o o (step (setting p o false) end s).dom
  few_stay o end s few = few_after p o s (step (setting p o false) end s) (step_delivers p o end s) few
